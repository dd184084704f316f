-- The state of a current frame is sound, its names are drawn, and its arrays have elements.
use Rattle.std.proofs.Common.{◌≡◌, ◌≢◌, ◌∙◌, sym, ap, refl, ℕ, ◌^◌, ◌<◌, ◌≤◌, Bool, true, false, List, [], length, Some}
use Rattle.std.proofs.Common.{arith}
use Rattle.std.proofs.lemmas.List.{length-replicate}
use Rattle.std.proofs.lemmas.Bool.{ltb-true}
use Rattle.std.specs.Prelude.{nat_lt}
use Rattle.std.specs.Option.{option_map}
use Rattle.object_codegen.specs.rpp_words.Words.{is_less}
use Rattle.object_codegen.specs.class_rules.declared.kind.Kind.TheVariants as kind
use Rattle.object_codegen.specs.roopl_semantics.Store.{Head, OfClass, OfInts, OfObjects, Object, State, main_name, object_named}
use Rattle.object_codegen.specs.roopl_semantics.Execution.{Setting}
use Rattle.object_codegen.specs.meaning_sound.Sound.{head_of, head_named, cell_kinds, Sound}
use Rattle.object_codegen.proofs.meaning_sound_laws.Lists.{all_length}
use Rattle.object_codegen.proofs.meaning_sound_laws.Cells.{sound_of}
use Rattle.object_codegen.proofs.meaning_sound_laws.Regions.{region_inside}
use Rattle.object_codegen.proofs.refine_frame_laws.Tells.{cells_small}
use Rattle.refine_expressions.specs.meaning_inverse.ArrayLengths.{is_class_head}
use Rattle.refine_expressions.proofs.meaning_inverse_laws.Known.{Context, Good, drawn_of}
use Rattle.object_codegen.specs.refine_form.Form.{Scope}
use Rattle.object_codegen.specs.refine_form.Frames.{Under}
use Rattle.object_codegen.specs.refine_form.Stands.{shape_of, extra, setup, HasElements, Stands}
use Rattle.refine_expressions.proofs.refine_calls_laws.Bridge.{typed, reads_of}
use Rattle.refine_expressions.proofs.refine_calls_laws.FactsMoves.{same_means}
use Rattle.object_codegen.proofs.Walking.{less_small}
use Rattle.object_codegen.specs.pisa_isa.declared.image.TheConstants.{MOST_STATICS}

module _ (setting : Setting) (statics : List ℕ) (few : length statics ≤ MOST_STATICS) (s : Scope)
    (inside : s.class < length setting.program.classes) (u : Under) (st : State) (cells : List ℕ)
    (h : Stands setting statics s u [] st cells) where
  pub sound : Sound setting (extra u []) (shape_of setting.program s) s.class st
  sound = sound_of setting (extra u []) (shape_of setting.program s) s.class st
      (typed setting statics s u [] st cells (reads_of h))
      (record { counts = h.counts; main_unheld = h.keeps.main_unheld })

  one_or_more : (n : ℕ) → 0 < n → n < 2 ^ 31 → is_less n 1 ≡ false
  one_or_more n some small = less_small n 1 small (omega arith) ∙ by (nat_lt n 1) refl
    where
      by : (b : Bool) → nat_lt n 1 ≡ b → b ≡ false
      by false e = refl
      by true e = absurd (let l = ltb-true n 1 e in omega arith)

  -- an array has so many cells as its head says
  as_head : (head : Head) → is_class_head head ≡ false → HasElements head → 0 < length (cell_kinds setting.program head)
  as_head (OfClass c) e h = absurd (cc)
  as_head (OfInts n) e h = let l = length-replicate n kind.Int in omega arith
  as_head (OfObjects c n) e h = let l = length-replicate n (kind.Class c) in omega arith

  long : (name : ℕ) (object : Object) → object_named st.store name ≡ Some object → is_class_head object.head ≡ false
      → is_less (length object.cells) 1 ≡ false
  long name object named array =
      let head : head_named st.store name ≡ Some object.head = ap (option_map head_of) named in
      let some = as_head object.head array (h.keeps.arrays name object.head head) in
      let sized = all_length setting.program st.store (cell_kinds setting.program object.head) object.cells
      (h.keeps.objects name object named) in
      let low = cells_small (setup setting statics) h.keeps.grounded.limits few in
      let region = region_inside setting st.store st.log h.keeps.placed name object.head head no_main in
      one_or_more (length object.cells) (omega (arith, some, sized)) (omega (arith, region, sized, low))
    where
      no_main : name ≢ main_name
      no_main e =
          let here : Some object.head ≡ Some (OfClass _) = sym (ap (option_map head_of) named)
          ∙ ap (head_named st.store) e ∙ h.keeps.grounded.main in
          cc

  abbrev pub context : Context setting
  context = record {
    extra = extra u [];
    locals = shape_of setting.program s;
    shape = shape_of setting.program s;
    class = s.class;
    inside = inside;
    means = same_means (shape_of setting.program s);
  }

  pub good : Good setting context st
  good = record {
    sound = sound;
    drawn = drawn_of setting (extra u []) (shape_of setting.program s) s.class st sound;
    arrays = record { long = long };
  }

-- If no frame refers to an object, making or deleting it changes no word of the stack and no frame
-- below.
use Rattle.std.proofs.Common.{◌≡◌, ◌≢◌, ◌∙◌, ap, refl, ℕ, ◌+◌, ◌<◌, true, List, [], ◌∷◌, ◌++◌, map, arith}
use Rattle.std.specs.Prelude.{nat_eq, is_some, if◌then◌else◌}
use Rattle.object_codegen.specs.rpp_words.declared.input.TheConstants.{FRAME_WORDS}
use Rattle.object_codegen.specs.class_rules.declared.kind.Kind.TheVariants as kind
use Rattle.object_codegen.specs.buddy_book.Place.{Placing, block_of}
use Rattle.object_codegen.specs.pisa_isa.Loaded.{statics_at}
use Rattle.object_codegen.specs.roopl_semantics.Store.{Value, Word, Nil, Name, Binding, Store, main_name}
use Rattle.object_codegen.specs.roopl_semantics.Laws.{one_if_name, holders_among}
use Rattle.object_codegen.specs.roopl_semantics.Execution.{Setting}
use Rattle.object_codegen.specs.meaning_sound.Sound.{head_named, is_live, named_fits, local_type, bound_value}
use Rattle.object_codegen.proofs.meaning_sound_laws.Lists.{all_kept}
use Rattle.object_codegen.proofs.meaning_sound_laws.Removal.{one_name}
use Rattle.object_codegen.specs.refine_form.Frames.{CallerFrame, Under, base, address_of, value_word, value_words, values_of, filled_to}
use Rattle.object_codegen.specs.refine_form.Frames.{frame_words, callers_words, stack_words, CallersStand}
use Rattle.object_codegen.specs.refine_form.Stands.{shape_of, CallersFit}
use Rattle.refine_expressions.proofs.refine_calls_laws.MovesFit.{class_at}

-- no frame below has the name, as a value or as its object
abbrev pub Avoids : ℕ → List CallerFrame → Type 0
Avoids n [] = Unit {0}
Avoids n (c ∷ callers) = (holders_among n (map bound_value c.frame) ≡ 0) × (n ≢ c.self) × Avoids n callers

-- a value that is held is no other name
pub held_apart : (n m : ℕ) (vs : List Value) → holders_among n vs ≡ 0 → 0 < holders_among m vs → n ≢ m
held_apart n m vs none some e = let z : holders_among n vs ≡ holders_among m vs = ap (λ k. holders_among k vs) e in
    omega (arith, none, some, z)

module _ (setting : Setting) (statics : List ℕ) (at at' : Placing) (n : ℕ)
    (same : (m : ℕ) → n ≢ m → block_of at'.blocks m ≡ block_of at.blocks m) where
  word_same : (v : Value) → one_if_name n v ≡ 0 → value_word setting statics at' v ≡ value_word setting statics at v
  word_same (Word w) h = refl
  word_same Nil h = refl
  word_same (Name m) h = ap (λ b. base setting statics + b)
      (same m (λ e. let o = one_name n in let z : one_if_name n (Name n)
      ≡ one_if_name n (Name m) = ap (λ k. one_if_name n (Name k)) e in omega (arith, o, z, h)))

  words_same : (vs : List Value) → holders_among n vs ≡ 0
      → value_words setting statics at' vs ≡ value_words setting statics at vs
  words_same [] h = refl
  words_same (v ∷ vs) h =
      ap (λ z. z ++ (value_word setting statics at' v ∷ [])) (words_same vs (omega arith))
      ∙ ap (λ w. value_words setting statics at vs ++ (w ∷ [])) (word_same v (omega arith))

  frame_same : (put_by : List ℕ) (frame : List Binding) → holders_among n (map bound_value frame) ≡ 0
      → frame_words setting statics at' put_by (values_of setting statics frame)
      ≡ frame_words setting statics at put_by (values_of setting statics frame)
  frame_same put_by frame h = ap (λ z. filled_to setting statics FRAME_WORDS (put_by ++ z))
      (words_same (values_of setting statics frame) h)

  callers_same : (callers : List CallerFrame) → Avoids n callers
      → callers_words setting statics at' callers ≡ callers_words setting statics at callers
  callers_same [] h = refl
  callers_same (c ∷ callers) h =
      ap (λ z. z ++ frame_words setting statics at' c.put_by (values_of setting statics c.frame))
      (callers_same callers h.2)
      ∙ ap (λ z. callers_words setting statics at callers ++ z) (frame_same c.put_by c.frame h.0)

  pub stack_same : (u : Under) (frame : List Binding) → holders_among n (map bound_value frame) ≡ 0 → Avoids n u.callers
      → stack_words setting statics at' u frame [] ≡ stack_words setting statics at u frame []
  stack_same u frame h g =
      ap (λ z. z ++ (frame_words setting statics at' u.put_by (values_of setting statics frame) ++ []))
      (callers_same u.callers g)
      ∙ ap (λ z. callers_words setting statics at u.callers ++ (z ++ [])) (frame_same u.put_by frame h)

  pub address_same : (m : ℕ) → n ≢ m → address_of setting statics at' m ≡ address_of setting statics at m
  address_same m h = ap (λ b. if nat_eq m main_name then statics_at else base setting statics + b) (same m h)

  module _ (store store' : Store) (heads : (m : ℕ) → n ≢ m → is_live store m ≡ true
      → head_named store' m ≡ head_named store m) where
    pub callers_fit_on : (callers : List CallerFrame) → CallersFit setting statics store callers → Avoids n callers
        → CallersFit setting statics store' callers
    callers_fit_on [] h a = tt
    callers_fit_on (c ∷ callers) h a =
        let self = heads c.self a.1 (ap is_some h.2) in (
          all_kept setting.program store store' (map local_type (shape_of setting.program c.scope))
              (map bound_value c.frame) (λ m p l. heads m (held_apart n m (map bound_value c.frame) a.0 p) l) h.0,
          ap (named_fits setting.program (kind.Class c.scope.class)) self ∙ h.1,
          self ∙ h.2,
          callers_fit_on callers h.3 a.2,
        )

    pub callers_stand_on : (callers : List CallerFrame) → CallersFit setting statics store callers → Avoids n callers
        → CallersStand setting statics at store callers → CallersStand setting statics at' store' callers
    callers_stand_on [] f a h = tt
    callers_stand_on (c ∷ callers) f a h = (
      (class_at store' c.self c.class (heads c.self a.1 (ap is_some f.2) ∙ f.2), address_same c.self a.1 ∙ h.0.1),
      h.1,
      h.2,
      callers_stand_on callers f.3 a.2 h.3,
    )

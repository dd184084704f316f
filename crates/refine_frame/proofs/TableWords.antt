-- The words of the class tables in the memory of a current frame.
use Rattle.std.proofs.Common.{◌≡◌, ◌∙◌, sym, ap, refl, ℕ, zero, suc, ◌+◌, ◌-◌, ◌<◌, ◌≤◌, Bool, true, false, List, []}
use Rattle.std.proofs.Common.{◌∷◌, ◌++◌, map, length, drop, arith, length-append}
use Rattle.std.proofs.lemmas.Bool.{ltb-true, ltb-false}
use Rattle.std.proofs.lemmas.List.{get_or_append_left, get_or-append_right, drop_at, length-map, length-replicate}
use Rattle.std.specs.Prelude.{nat_lt, slice_get, slice_index}
use Rattle.std.specs.Option.{unwrap_or}
use Rattle.meaning_sound.specs.code_conventions.declared.memory.TheConstants.{HEADER_WORDS}
use Rattle.meaning_sound.specs.rpp_tree.Tree.{Source}
use Rattle.meaning_sound.specs.class_rules.Classes.{class_slots}
use Rattle.meaning_sound.specs.class_rules.Scope.{Locals}
use Rattle.meaning_sound.proofs.class_rules_laws.Numbers.{each_below-get, length-each_below}
use Rattle.meaning_sound.specs.roopl_semantics.Store.{State, main_name, object_at}
use Rattle.meaning_sound.specs.roopl_semantics.Source.{main_fields}
use Rattle.meaning_sound.specs.roopl_semantics.Layout.{HasStatics, table_at, main_statics, tables, object_words}
use Rattle.meaning_sound.specs.pisa_isa.Image.{Segments}
use Rattle.meaning_sound.specs.pisa_isa.Loaded.{statics_at}
use Rattle.meaning_sound.specs.Sound.{Typed}
use Rattle.refine_frame.specs.Open.{Setup, setup_base, memory, IsGrounded}
use Rattle.refine_frame.proofs.Memory.{second, fixed, statics, gap, heap, stack_part, length_fixed, length_statics}
use Rattle.refine_frame.proofs.Memory.{main_long}

-- the code addresses of a class
abbrev pub places_of : List (List ℕ) → ℕ → List ℕ
places_of places class = unwrap_or (slice_get places class) []

-- where a class's table begins among the tables
abbrev pub table_offset : List (List ℕ) → ℕ → ℕ
table_offset [] class = 0
table_offset (p ∷ places) zero = 0
table_offset (p ∷ places) (suc class) = 1 + length p + table_offset places class

table_word : (number : ℕ) (places : List (List ℕ)) (class slot : ℕ) → slot < length (places_of places class)
    → slice_index (tables number places) (table_offset places class + 1 + slot)
    ≡ slice_index (places_of places class) slot
table_word number [] class slot h = absurd (omega arith)
table_word number (p ∷ places) zero slot h =
    let e : 0 + 1 + slot ≡ suc slot = omega arith in
    ap (slice_index (number ∷ (p ++ tables (number + 1) places))) e
    ∙ get_or_append_left p (tables (number + 1) places) 0 slot h
table_word number (p ∷ places) (suc class) slot h =
    let e : 1 + length p + table_offset places class + 1 + slot
    ≡ suc (length p + (table_offset places class + 1 + slot)) = omega arith in
    let d : length p + (table_offset places class + 1 + slot) - length p ≡ table_offset places class + 1 + slot =
    omega arith in
    ap (slice_index (number ∷ (p ++ tables (number + 1) places))) e
    ∙ get_or-append_right p (tables (number + 1) places) (length p) (length p + (table_offset places class + 1 + slot))
    0 refl (omega arith)
    ∙ ap (slice_index (tables (number + 1) places)) d
    ∙ table_word (number + 1) places class slot h

table_inside : (number : ℕ) (places : List (List ℕ)) (class slot : ℕ) → slot < length (places_of places class)
    → table_offset places class + 1 + slot < length (tables number places)
table_inside number [] class slot h = absurd (omega arith)
table_inside number (p ∷ places) zero slot h = omega (arith, length-append p (tables (number + 1) places))
table_inside number (p ∷ places) (suc class) slot h = let r = table_inside (number + 1) places class slot h in
    omega (arith, length-append p (tables (number + 1) places))

offset_next : (places : List (List ℕ)) (class : ℕ) → class < length places
    → table_offset places (suc class) ≡ table_offset places class + (1 + length (places_of places class))
offset_next [] class h = absurd (omega arith)
offset_next (p ∷ []) zero h = omega arith
offset_next (p ∷ (q ∷ places)) zero h = omega arith
offset_next (p ∷ places) (suc class) h = let r = offset_next places class (omega arith) in omega arith

mapped_length : (places : List (List ℕ)) (class : ℕ) → class < length places
    → unwrap_or (slice_get (map length places) class) 0 ≡ length (places_of places class)
mapped_length [] class h = absurd (omega arith)
mapped_length (p ∷ places) zero h = refl
mapped_length (p ∷ places) (suc class) h = mapped_length places class (omega arith)

module _ (program : Source) (image : Segments) (has : HasStatics program image) where
  places_count : length has.places ≡ length program.classes
  places_count = sym (length-map has.places length) ∙ ap length has.slots
      ∙ length-each_below (λ class. length (class_slots program class)) (length program.classes)

  -- a class has a place for each of its slots
  pub places_length : (class : ℕ) → class < length program.classes
      → length (places_of has.places class) ≡ length (class_slots program class)
  places_length class h =
      let c = places_count in
      sym (mapped_length has.places class (omega arith))
      ∙ ap (λ (z : List ℕ). unwrap_or (slice_get z class) 0) has.slots
      ∙ each_below-get (λ class. length (class_slots program class)) (length program.classes) class 0 h

  pub table_place : (class : ℕ) → class ≤ length program.classes
      → table_at program class ≡ statics_at + HEADER_WORDS + length (main_fields program) + table_offset has.places
      class
  table_place zero h = let z : table_offset has.places zero ≡ 0 = first has.places in omega arith
    where
      first : (places : List (List ℕ)) → table_offset places zero ≡ 0
      first [] = refl
      first (p ∷ places) = refl
  table_place (suc class) h =
      let c = places_count in
      let n = offset_next has.places class (omega arith) in
      let l = places_length class (omega arith) in
      let r = table_place class (omega arith) in
      omega arith

-- the word of a class's slot is the code address
pub read_table : (u : Setup) (extra : ℕ → ℕ) (shape : Locals) (class : ℕ) (st : State)
    (s : Typed u.setting extra shape class st) (g : IsGrounded u st.store) (image : Segments)
    (has : HasStatics u.setting.program image) → u.statics ≡ image.statics
    → (stack : List ℕ) (own slot : ℕ) → own < length u.setting.program.classes
    → slot < length (class_slots u.setting.program own)
    → slice_index (memory u s.placed.at st.store stack) (table_at u.setting.program own + 1 + slot)
    ≡ slice_index (places_of has.places own) slot
read_table u extra shape class st s g image has same stack own slot inside h =
    let program = u.setting.program in
    let at = s.placed.at in
    let main = object_words program (setup_base u) at.blocks (object_at st.store main_name) in
    let long = main_long u extra shape class st s g in
    let places = has.places in
    let l = places_length program image has own inside in
    let t = table_place program image has own (omega arith) in
    let statics_are : u.statics ≡ main_statics program ++ tables 1 places = same ∙ has.words in
    let front : length (main_statics program) ≡ HEADER_WORDS + length (main_fields program) =
    omega (arith, length-replicate {A = ℕ} (length (main_fields program)) 0) in
    let dropped : drop (length main) u.statics ≡ tables 1 places = ap (drop (length main)) statics_are
    ∙ drop_at (main_statics program) (tables 1 places) (length main) (omega arith) in
    let total : length u.statics ≡ length (main_statics program) + length (tables 1 places) = ap length statics_are
    ∙ length-append (main_statics program) (tables 1 places) in
    let j = HEADER_WORDS + length (main_fields program) + (table_offset places own + 1 + slot) in
    let low = table_inside 1 places own slot (omega arith) in
    let back : j - length main ≡ table_offset places own + 1 + slot = omega arith in
    second (fixed u extra shape class st s g) (statics u extra shape class st s g) (gap u extra shape class st s g)
    (heap u extra shape class st s g) (stack_part u extra shape class st s g stack)
    (table_at program own + 1 + slot) j (let f = length_fixed u extra shape class st s g in omega arith)
    (let k = length_statics u extra shape class st s g in omega arith)
    ∙ get_or-append_right main (drop (length main) u.statics) (length main) j 0 refl (omega arith)
    ∙ ap (λ z. slice_index z (j - length main)) dropped
    ∙ ap (slice_index (tables 1 places)) back
    ∙ table_word 1 places own slot (omega arith)

-- and is among the static cells
pub table_low : (program : Source) (image : Segments) (has : HasStatics program image) (own slot : ℕ)
    → own < length program.classes → slot < length (class_slots program own)
    → table_at program own + 1 + slot < statics_at + length image.statics
table_low program image has own slot inside h =
    let places = has.places in
    let l = places_length program image has own inside in
    let t = table_place program image has own (omega arith) in
    let front : length (main_statics program) ≡ HEADER_WORDS + length (main_fields program) =
    omega (arith, length-replicate {A = ℕ} (length (main_fields program)) 0) in
    let total : length image.statics ≡ length (main_statics program) + length (tables 1 places) = ap length has.words
    ∙ length-append (main_statics program) (tables 1 places) in
    let low = table_inside 1 places own slot (omega arith) in
    omega arith

-- the tables of the classes are one after the other
pub tables_ascend : (program : Source) (c d : ℕ) → c < d → table_at program c < table_at program d
tables_ascend program c zero h = absurd (omega arith)
tables_ascend program c (suc d) h = by (λ l. tables_ascend program c d l) (nat_lt c d) refl
  where
    by : (c < d → table_at program c < table_at program d) → (b : Bool) → nat_lt c d ≡ b
        → table_at program c < table_at program (suc d)
    by rest true e = let a = rest (ltb-true c d e) in omega arith
    by rest false e = let a : c ≡ d = (let l = ltb-false c d e in omega arith) in let b = ap (table_at program) a in
        omega arith

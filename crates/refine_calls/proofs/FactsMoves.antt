-- The facts of moves, of the one relation.
use Rattle.std.proofs.Common.{◌≡◌, ◌≢◌, ℕ, zero, suc, ◌+◌, ◌-◌, ◌<◌, ◌≤◌, true, List, [], ◌∷◌, length, map, Option}
use Rattle.std.proofs.Common.{Some, None, refl, sym, ap, ◌∙◌, subst, arith}
use Rattle.std.proofs.lemmas.List.{length-map}
use Rattle.std.specs.Prelude.{slice_index, slice_set, position}
use Rattle.std.specs.Option.{unwrap_or, option_map, option_or}
use Rattle.std.specs.Str.{bytes_eq}
use Rattle.buddy_pisa.specs.rpp_words.declared.input.TheConstants.{FRAME_WORDS, FIXED_CELLS}
use Rattle.method_calls.specs.code_conventions.declared.memory.TheConstants.{FIRST_VARIABLE, HEADER_WORDS}
use Rattle.method_calls.specs.rpp_tree.declared.tree.Ident.{Ident}
use Rattle.method_calls.specs.rpp_tree.declared.tree.Var.{Var}
use Rattle.method_calls.specs.class_rules.Classes.{class_fields}
use Rattle.method_calls.specs.class_rules.Table.{table_of, field_in}
use Rattle.method_calls.specs.class_rules.Program.{setting_in}
use Rattle.method_calls.specs.roopl_semantics.Store.{Value, State, is_zero, cleared}
use Rattle.method_calls.specs.roopl_semantics.Value.{Cell, cell_named, read, written}
use Rattle.method_calls.specs.class_rules.Members.{field_of, field_name}
use Rattle.method_calls.specs.roopl_semantics.Execution.{Setting}
use Rattle.method_calls.specs.meaning_sound.Sound.{cell_kind}
use Rattle.method_calls.specs.meaning_sound.Kept.{MeansSame}
use Rattle.method_calls.proofs.meaning_sound_laws.Classes.{KnowsClasses}
use Rattle.method_calls.proofs.meaning_sound_laws.Values.{variable_fits}
use Rattle.method_calls.proofs.class_rules_laws.PassedRules.{some_of}
use Rattle.method_calls.proofs.meaning_sound_laws.Names.{type_at, local_kind_is, field_number_is}
use Rattle.method_calls.specs.class_rules.Scope.{local_kind, kind_at, field_kind, kind_in}
use Rattle.method_calls.specs.class_rules.Refusal.{unknown_name}
use Rattle.method_calls.proofs.class_rules_laws.Tables.{table_reads}
use Rattle.method_calls.specs.refine_form.Form.{Scope, Moved}
use Rattle.method_calls.specs.Facts.{MovesIn, MovesBack, address}
use Rattle.method_calls.specs.refine_form.Frames.{Under, base, address_of, value_word, cell_at, cell_in, OpenFrame}
use Rattle.refine_calls.proofs.FramesFit.{means, class_stays}
use Rattle.refine_calls.proofs.SlotMoves.{zero_word, other_word, cleared_word}
use Rattle.method_calls.specs.refine_form.Stands.{shape_of, extra, moved_value, moved_values, spot_at, spot_in, Kept}
use Rattle.method_calls.specs.refine_form.Stands.{Reads}
use Rattle.method_calls.specs.refine_form.Stands.{Stands}
use Rattle.refine_calls.proofs.Bridge.{reads_of, set_words, shape_names, typed, before_long, long_by, as_many_vars}
use Rattle.refine_calls.proofs.KeptMoves.{kept_up, kept_back, counts_up, counts_back}
use Rattle.refine_calls.proofs.MovesFit.{frame_address, place_of, frame_long, cell_inside, cell_low, frame_read}
use Rattle.refine_calls.proofs.MovesFit.{frame_as, frame_write, up_empty, frame_up, up_value, frame_down}
use Rattle.method_calls.specs.Names.{IsVariable}

pub set_apart : (cells : List ℕ) (a b x y : ℕ) → a ≢ b
    → slice_set (slice_set cells a x) b y ≡ slice_set (slice_set cells b y) a x
set_apart [] a b x y h = refl
set_apart (c ∷ cells) zero zero x y h = absurd (h refl)
set_apart (c ∷ cells) zero (suc b) x y h = refl
set_apart (c ∷ cells) (suc a) zero x y h = refl
set_apart (c ∷ cells) (suc a) (suc b) x y h = ap (λ z. c ∷ z) (set_apart cells a b x y (λ e. h (ap suc e)))

pub same_means : (shape : Rattle.method_calls.specs.class_rules.Scope.Locals) → MeansSame shape shape
same_means shape = record { same = λ name. refl }

module _ (setting : Setting) (statics : List ℕ) (classes : KnowsClasses setting.program) where
  module _ (s : Scope) (u : Under) (moved : List Moved) (st : State) (cells : List ℕ)
      (h : Reads setting statics s u moved st cells) (name : Ident) (var : IsVariable setting.program s name) where
    abbrev pub cell : Cell
    cell = cell_in setting statics s u name

    pub cell_is : cell_named setting.program st name.text ≡ cell
    cell_is = means setting statics s u (moved_values setting statics moved) st cells name h.frame

    pub cell_has : cell_kind setting.program (shape_of setting.program s) st.store cell ≡ Some var.kind
    cell_has =
        ap (cell_kind setting.program (shape_of setting.program s) st.store) (sym cell_is)
        ∙ variable_fits setting classes (extra u moved) (shape_of setting.program s) (shape_of setting.program s)
        s.class h.keeps.class_inside (same_means (shape_of setting.program s)) st name var.kind
        (typed setting statics s u moved st cells h) var.typed

    -- the address of its storage slot
    pub spot_is : address u.object (frame_address setting statics u) (spot_in setting.program s name)
        ≡ place_of setting statics h.frame.at u st cell
    spot_is = by (position (bytes_eq name.text) (map (λ (v : Var). v.name.text) s.vars)) refl
      where
        fields : position (bytes_eq name.text) (map (λ (v : Var). v.name.text) s.vars) ≡ None → (r : Option ℕ)
            → field_in (table_of setting.program) s.class name.text ≡ r
            → u.object + (HEADER_WORDS + unwrap_or (field_of (class_fields setting.program s.class) name.text) 0)
            ≡ address_of setting statics h.frame.at u.self +
            (HEADER_WORDS + unwrap_or (field_of (class_fields setting.program u.class) name.text) 0)
        fields e (Some i) is =
            let shape = shape_of setting.program s in
            let own = class_stays setting statics s u (moved_values setting statics moved) st cells h.frame in
            let dynamic = ap (λ c. field_of (class_fields setting.program c) name.text) (sym own)
            ∙ field_number_is setting classes (extra u moved) shape shape s.class h.keeps.class_inside
            (same_means shape) st name.text i (typed setting statics s u moved st cells h) is in
            let static : field_of (class_fields setting.program s.class) name.text ≡ Some i =
            ap (λ (vars : List Var). position (bytes_eq name.text) (map field_name vars))
            (sym (table_reads setting.program s.class h.keeps.class_inside).fields) ∙ is in
            ap (λ r. u.object + (HEADER_WORDS + unwrap_or r 0)) (static ∙ sym dynamic)
            ∙ ap (λ o. o + (HEADER_WORDS + unwrap_or (field_of (class_fields setting.program u.class) name.text) 0))
            (sym h.frame.stands.1)
        fields e None is = absurd (let q = some_of (kind_in
            (setting_in setting.program (table_of setting.program) s.class) (shape_of setting.program s) name.text)
            (unknown_name name.at) var.kind var.typed in let z = nothing in cc)
          where
            no_local : local_kind (shape_of setting.program s) name.text ≡ None
            no_local = local_kind_is (shape_of setting.program s) name.text
                ∙ ap (type_at (shape_of setting.program s)) (ap (position (bytes_eq name.text))
                (shape_names setting.program s.vars) ∙ e)

            nothing : kind_in (setting_in setting.program (table_of setting.program) s.class)
                (shape_of setting.program s) name.text ≡ None
            nothing = ap (λ z. option_or z (field_kind (table_of setting.program) s.class name.text)) no_local
                ∙ ap (option_map (kind_at (table_of setting.program) s.class)) is

        by : (r : Option ℕ) → position (bytes_eq name.text) (map (λ (v : Var). v.name.text) s.vars) ≡ r
            → address u.object (frame_address setting statics u) (spot_at setting.program s name r)
            ≡ place_of setting statics h.frame.at u st (cell_at setting statics u name r)
        by (Some i) e = ap (λ n. frame_address setting statics u + (FIRST_VARIABLE + (n - 1 - i)))
            (sym (as_many_vars setting statics s u moved st cells h))
        by None e = fields e (field_in (table_of setting.program) s.class name.text) refl

    abbrev pub place : ℕ
    place = address u.object (frame_address setting statics u) (spot_in setting.program s name)

  -- up
  pub moves_in : (s : Scope) (u : Under) (moved : List Moved) (st : State) (cells : List ℕ) (name : Ident)
      (h : Stands setting statics s u moved st cells) (var : IsVariable setting.program s name) → length moved < 32
      → 1 + st.depth ≤ setting.limits.deep
      → MovesIn cells (place s u moved st cells (reads_of h) name var)
      (frame_address setting statics u + (FRAME_WORDS + (FIRST_VARIABLE + length moved)))
      (Stands setting statics s u (record { from = name; value = read st (cell_in setting statics s u name) }
      ∷ moved) (written st (cell_in setting statics s u name)
      (cleared (read st (cell_in setting statics s u name)))))
  moves_in s u moved st cells name h var few room =
      let c = cell_in setting statics s u name in
      let v = read st c in
      let has = cell_has s u moved st cells (reads_of h) name var in
      let at = h.frame.at in
      let where_is = spot_is s u moved st cells (reads_of h) name var in
      let t = typed setting statics s u moved st cells (reads_of h) in
      let k = kept_up setting statics s u moved st t h.keeps c var.kind has name refl in
      let inside = cell_inside setting statics s u moved st cells (reads_of h) c var.kind has in
      let low = cell_low setting statics s u moved st cells (reads_of h) c var.kind has in
      let n : length (moved_values setting statics moved) ≡ length moved = length-map moved moved_value in
      let fv : length (moved_values setting statics moved) < 32 = omega (arith, n, few) in
      let up0 = frame_address setting statics u + (FRAME_WORDS +
      (FIRST_VARIABLE + length (moved_values setting statics moved))) in
      let up_same : up0 ≡ frame_address setting statics u + (FRAME_WORDS + (FIRST_VARIABLE + length moved)) =
      ap (λ j. frame_address setting statics u + (FRAME_WORDS + (FIRST_VARIABLE + j))) n in
      let long = before_long setting statics s u moved st cells (reads_of h) in
      let all = frame_long setting statics s u moved st cells (reads_of h) in
      let d = h.frame.depth_is in
      let vars = h.frame.few in
      let f1 = frame_write setting statics s u moved st cells (reads_of h) c var.kind (cleared v) has in
      let long1 = long_by setting statics s u (record { from = name; value = v } ∷ moved) (written st c (cleared v)) k
      (moved_values setting statics moved) _ f1 in
      let room1 : 1 + (written st c (cleared v)).depth ≤ setting.limits.deep =
      subst (λ j. 1 + j ≤ setting.limits.deep) (sym (frame_as setting statics s u moved st cells (reads_of h) c
      (cleared v)).1) room in
      let f2 = frame_up setting statics s u (moved_values setting statics moved) (written st c (cleared v)) _ f1 long1
      fv room1 v in
      let P = place s u moved st cells (reads_of h) name var in
      let first : slice_set cells P 0 ≡ slice_set cells (place_of setting statics at u st c)
      (value_word setting statics at (cleared v)) = ap (λ a. slice_set cells a 0) where_is
      ∙ ap (slice_set cells (place_of setting statics at u st c)) (sym (cleared_word setting statics at v)) in
      let got : slice_index cells P ≡ value_word setting statics at v = ap (slice_index cells) where_is
      ∙ frame_read setting statics s u moved st cells (reads_of h) c var.kind has in
      let both : slice_set (slice_set cells P 0) (frame_address setting statics u +
      (FRAME_WORDS + (FIRST_VARIABLE + length moved)))
      (slice_index cells P) ≡ slice_set (slice_set cells (place_of setting statics at u st c)
      (value_word setting statics at (cleared v))) up0 (value_word setting statics at v) =
      ap (λ z. slice_set z (frame_address setting statics u + (FRAME_WORDS + (FIRST_VARIABLE + length moved)))
      (slice_index cells P)) first
      ∙ ap (λ a. slice_set (slice_set cells (place_of setting statics at u st c)
      (value_word setting statics at (cleared v))) a (slice_index cells P)) (sym up_same)
      ∙ ap (slice_set (slice_set cells (place_of setting statics at u st c)
      (value_word setting statics at (cleared v))) up0) got in
      record {
        words = record {
          at_in = omega (arith, where_is, inside);
          up_in = omega (arith, all, d, room, few);
          apart = λ e. omega (arith, e, where_is, low, vars);
        };
        empty = ap (slice_index cells) (sym up_same) ∙ up_empty setting statics s u (moved_values setting statics moved)
            st cells h.frame long fv room;
        moved = record {
          frame = subst (OpenFrame setting statics s u (v ∷ moved_values setting statics moved)
              (written st c (cleared v))) (sym both) f2;
          keeps = k;
          counts = counts_up setting statics s u moved st t h.keeps c var.kind has name h.counts;
          words = set_words (slice_set cells P 0) (frame_address setting statics u +
              (FRAME_WORDS + (FIRST_VARIABLE + length moved)))
              (slice_index cells P) (set_words cells P 0 h.words (omega arith)) (h.words P);
        };
      }

  -- and back
  pub moves_back : (s : Scope) (u : Under) (v : Value) (moved : List Moved) (st : State) (cells : List ℕ) (name : Ident)
      (h : Stands setting statics s u (record { from = name; value = v } ∷ moved) st cells)
      (var : IsVariable setting.program s name)
      → MovesBack cells (place s u (record { from = name; value = v } ∷ moved) st cells (reads_of h) name var)
      (frame_address setting statics u + (FRAME_WORDS + (FIRST_VARIABLE + length moved)))
      (is_zero (read st (cell_in setting statics s u name)))
      (Stands setting statics s u moved (written st (cell_in setting statics s u name) v))
  moves_back s u v moved st cells name h var =
      let x : Moved = record { from = name; value = v } in
      let c = cell_in setting statics s u name in
      let has = cell_has s u (x ∷ moved) st cells (reads_of h) name var in
      let at = h.frame.at in
      let where_is = spot_is s u (x ∷ moved) st cells (reads_of h) name var in
      let t = typed setting statics s u (x ∷ moved) st cells (reads_of h) in
      let inside = cell_inside setting statics s u (x ∷ moved) st cells (reads_of h) c var.kind has in
      let low = cell_low setting statics s u (x ∷ moved) st cells (reads_of h) c var.kind has in
      let vs = moved_values setting statics moved in
      let n : length vs ≡ length moved = length-map moved moved_value in
      let long = before_long setting statics s u (x ∷ moved) st cells (reads_of h) in
      let all = frame_long setting statics s u (x ∷ moved) st cells (reads_of h) in
      let d = h.frame.depth_is in
      let vars = h.frame.few in
      let few : length moved < 32 = (let k = h.frame.few_vals in
      let n1 : length (v ∷ vs) ≡ 1 + length vs = omega arith in omega (arith, n, k, n1)) in
      let room : 1 + st.depth ≤ setting.limits.deep = h.frame.above_fits in
      let up0 = frame_address setting statics u + (FRAME_WORDS + (FIRST_VARIABLE + length vs)) in
      let up1 = frame_address setting statics u + (FRAME_WORDS + (FIRST_VARIABLE + length moved)) in
      let up_same : up0 ≡ up1 = ap (λ j. frame_address setting statics u + (FRAME_WORDS + (FIRST_VARIABLE + j))) n in
      let P = place s u (x ∷ moved) st cells (reads_of h) name var in
      let apart : P ≢ up1 = λ e. omega (arith, e, where_is, low, vars) in
      let got : slice_index cells P ≡ value_word setting statics at (read st c) = ap (slice_index cells) where_is
      ∙ frame_read setting statics s u (x ∷ moved) st cells (reads_of h) c var.kind has in
      let high : slice_index cells up1 ≡ value_word setting statics at v = ap (slice_index cells) (sym up_same)
      ∙ up_value setting statics s u v vs st cells h.frame long in
      let pos : 0 < base setting statics = (let q : FIXED_CELLS + length statics ≤ base setting statics
      = Rattle.method_calls.proofs.refine_frame_laws.Memory.base_above
      (Rattle.method_calls.specs.refine_form.Stands.setup setting statics) in
      omega (arith, q)) in
      let untouched : is_zero (read st c) ≡ true → slice_index cells P ≡ 0 = λ e. got
      ∙ zero_word setting statics at (read st c) e in
      record {
        words = record {
          at_in = omega (arith, where_is, inside);
          up_in = omega (arith, all, d, room, few);
          apart = apart;
        };
        cell = record {
          touched = λ e z. other_word setting statics at (read st c) pos e (sym got ∙ z);
          untouched = untouched;
        };
        back = λ e.
            let k = kept_back setting statics s u x moved st t h.keeps e in
            let f1 = frame_write setting statics s u (x ∷ moved) st cells (reads_of h) c var.kind v has in
            let st1 = written st c v in
            let long1 = long_by setting statics s u moved st1 k (v ∷ vs) _ f1 in
            let f2 = frame_down setting statics s u v vs st1 _ f1 long1 in
            let both : slice_set (slice_set cells up1 0) P (slice_index cells up1)
            ≡ slice_set (slice_set cells (place_of setting statics at u st c) (value_word setting statics at v)) up0
            0 =
            ap (slice_set (slice_set cells up1 0) P) high
            ∙ set_apart cells up1 P 0 (value_word setting statics at v) (λ q. apart (sym q))
            ∙ ap (λ a. slice_set (slice_set cells a (value_word setting statics at v)) up1 0) where_is
            ∙ ap (λ a. slice_set (slice_set cells (place_of setting statics at u st c)
            (value_word setting statics at v)) a 0) (sym up_same) in
            record {
              frame = subst (OpenFrame setting statics s u vs st1) (sym both) f2;
              keeps = k;
              counts = counts_back setting statics s u x moved st t h.keeps e h.counts;
              words = set_words (slice_set cells up1 0) P (slice_index cells up1)
                  (set_words cells up1 0 h.words (omega arith)) (h.words up1);
            };
      }

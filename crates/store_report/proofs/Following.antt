-- The report from the cells is the report of the store.
use Rattle.std.proofs.Common.{◌≡◌, ◌∙◌, sym, ap, subst, refl, ℕ, zero, suc, ◌+◌, ◌<◌, ◌≤◌, true, List, [], ◌∷◌, ◌++◌}
use Rattle.std.proofs.Common.{map, length, arith}
use Rattle.std.proofs.lemmas.List.{length-append}
use Rattle.std.specs.Prelude.{nat_eq}
use Rattle.meaning_reached.specs.rpp_tree.declared.tree.VarType.{VarType}
use Rattle.meaning_reached.specs.rpp_tree.Tree.{Source}
use Rattle.refine_frame.specs.code_conventions.declared.memory.TheConstants.{COUNT_WORD, HEADER_WORDS}
use Rattle.static_layout.specs.roopl_semantics.Store.{Value, Word, Nil, Name, Head, Object, Store, main_name}
use Rattle.static_layout.specs.roopl_semantics.Store.{object_at}
use Rattle.static_layout.specs.roopl_semantics.Source.{main_fields}
use Rattle.static_layout.specs.roopl_semantics.Agreement.{renamed}
use Rattle.static_layout.specs.roopl_semantics.Laws.{holders}
use Rattle.static_layout.specs.roopl_semantics.Report.{newly_met, walked, numbered, number_shown, field_lines}
use Rattle.static_layout.specs.roopl_semantics.Report.{head_shown, cell_lines}
use Rattle.static_layout.specs.roopl_semantics.Report.{object_lines, live_line, live_count, report, head_line}
use Rattle.static_layout.specs.roopl_semantics.Report.{object_text}
use Rattle.static_layout.specs.roopl_semantics.Layout.{head_word}
use Rattle.static_layout.specs.roopl_semantics.Walk.{types_of, Reference, cell_types, types_at, newly_reached}
use Rattle.static_layout.specs.roopl_semantics.Walk.{reached_within, reached}
use Rattle.pisa_machine.specs.pisa_isa.Loaded.{statics_at}
use Rattle.pisa_machine.specs.pisa_isa.Machine.{word_at}
use Rattle.refine_frame.specs.meaning_sound.Sound.{is_live, Descending, AllFit, cell_kinds}
use Rattle.refine_frame.proofs.meaning_sound_laws.Stores.{live_object}
use Rattle.meaning_reached.proofs.Numbering.{unmet, unmet_all, new_count, held_at}
use Rattle.store_report.specs.Told.{values_told, head_told, object_told, address_of, lines_told, report_told}
use Rattle.store_report.proofs.Texts.{AllGood, ValueGood, ValuesGood, number_there, fields_there, lines_there}
use Rattle.store_report.proofs.Telling.{IsGood, Facts, there, kind_told, told_apart, head_is_told, Match, Rel}
use Rattle.store_report.proofs.Telling.{rel_append, Tells, tells_from, HoldGood, values_are_told, newly_told}

-- a walk with steps enough does not depend on how many
walks_alike : (bound : ℕ) (store : Store) → Descending bound store
    → ((m : ℕ) → 0 < holders m store → is_live store m ≡ true) → (a b : ℕ) (met pending : List ℕ)
    → length pending + unmet met store ≤ a → length pending + unmet met store ≤ b
    → walked a store met pending ≡ walked b store met pending
walks_alike bound store d live zero zero met [] h k = refl
walks_alike bound store d live zero (suc b) met [] h k = refl
walks_alike bound store d live (suc a) zero met [] h k = refl
walks_alike bound store d live (suc a) (suc b) met [] h k = refl
walks_alike bound store d live zero b met (name ∷ pending) h k = absurd (omega arith)
walks_alike bound store d live (suc a) zero met (name ∷ pending) h k = absurd (omega arith)
walks_alike bound store d live (suc a) (suc b) met (name ∷ pending) h k =
    let cells = (object_at store name).cells in
    let new = newly_met met cells in
    let counted = new_count bound store met cells d (λ m p. live m (held_at store name m p)) in
    let size : length (pending ++ new) ≡ length pending + length new = length-append pending new in
    walks_alike bound store d live a b (met ++ new) (pending ++ new) (omega arith) (omega arith)

module _ (program : Source) (store : Store) (base : ℕ) (blocks : List (ℕ × ℕ)) (mem : List ℕ)
    (facts : Facts program store base blocks mem) where
  abbrev A : ℕ → ℕ
  A n = there program store base blocks mem facts n

  abbrev Good : ℕ → Type 0
  Good n = IsGood store n

  abbrev Related : List Reference → List ℕ → Type 0
  Related references names = Rel program store base blocks mem facts references names

  good_at : (n : ℕ) → HoldGood program store base blocks mem facts (object_at store n).cells
  good_at n m p = facts.held_good m (held_at store n m p)

  -- the cells of what a reference leads to
  match_tells : (r : Reference) (n : ℕ) → Match program store base blocks mem facts r n
      → Tells program store base blocks mem facts (r.at + HEADER_WORDS) (types_at program mem r)
      (object_at store n).cells
  match_tells r n m =
      let o = object_at store n in
      let word : word_at mem r.at ≡ head_word program o.head = ap (word_at mem) m.at ∙ facts.head n m.good in
      let told = head_is_told program store base blocks mem facts r.type o.head m.fit in
      let fit = facts.typed n o (live_object store n m.good.live) in
      let types : types_at program mem r ≡ cell_types program r.type (head_word program o.head) =
      ap (cell_types program r.type) word in
      subst (λ ts. Tells program store base blocks mem facts (r.at + HEADER_WORDS) ts o.cells) (sym types)
      (tells_from program store base blocks mem facts (r.at + HEADER_WORDS)
      (cell_types program r.type (head_word program o.head))
      o.cells
      (subst (λ ks. AllFit program store ks o.cells) (sym told.kinds) fit)
      (λ i l. ap (λ a. word_at mem (a + HEADER_WORDS + i)) m.at ∙ facts.part n i m.good l))

  main_types : (f : Rattle.meaning_reached.specs.rpp_tree.declared.tree.VarType.VarType
      → Rattle.refine_frame.specs.class_rules.declared.kind.Kind.Kind)
      (vars : List Rattle.meaning_reached.specs.rpp_tree.declared.tree.Var.Var)
      → map f (types_of vars) ≡ map (λ var. f var.kind) vars
  main_types f [] = refl
  main_types f (var ∷ vars) = ap (λ z. f var.kind ∷ z) (main_types f vars)

  main_tells : Tells program store base blocks mem facts (statics_at + HEADER_WORDS) (types_of (main_fields program))
      (object_at store main_name).cells
  main_tells =
      let o = object_at store main_name in
      let fit = facts.typed main_name o (live_object store main_name facts.main_live) in
      let kinds : map (kind_told program store base blocks mem facts) (types_of (main_fields program))
      ≡ cell_kinds program o.head = main_types (kind_told program store base blocks mem facts) (main_fields program)
      ∙ ap (cell_kinds program) (sym facts.main_head) in
      tells_from program store base blocks mem facts (statics_at + HEADER_WORDS) (types_of (main_fields program))
      o.cells
      (subst (λ ks. AllFit program store ks o.cells) (sym kinds) fit) facts.main_part

  walks_told : (steps : ℕ) (met pending : List Reference) (names rest : List ℕ) → Related met names
      → Related pending rest → Related (reached_within steps program mem met pending) (walked steps store names rest)
  walks_told zero met pending names rest h k = h
  walks_told (suc steps) met [] names [] h k = h
  walks_told (suc steps) met [] names (n ∷ rest) h k = absurd k
  walks_told (suc steps) met (r ∷ pending) names [] h k = absurd k
  walks_told (suc steps) met (r ∷ pending) names (n ∷ rest) h k =
      let cells = (object_at store n).cells in
      let new = newly_told program store base blocks mem facts met names (r.at + HEADER_WORDS) (types_at program mem r)
      cells h
      (match_tells r n k.0) (good_at n) in
      let refs = newly_reached mem met (r.at + HEADER_WORDS) (types_at program mem r) in
      walks_told steps (met ++ refs) (pending ++ refs) (names ++ newly_met names cells) (rest ++ newly_met names cells)
      (rel_append program store base blocks mem facts met names refs (newly_met names cells) h new)
      (rel_append program store base blocks mem facts pending rest refs (newly_met names cells) k.1 new)

  -- the walk in memory and the walk in the store meet the same, in one order
  pub reached_is_numbered : (bound : ℕ) → Descending bound store → length store ≤ length mem
      → Related (reached program mem) (numbered store)
  reached_is_numbered bound d small =
      let cells = (object_at store main_name).cells in
      let first = newly_met [] cells in
      let refs = newly_reached mem [] (statics_at + HEADER_WORDS) (types_of (main_fields program)) in
      let start = newly_told program store base blocks mem facts [] [] (statics_at + HEADER_WORDS)
      (types_of (main_fields program))
      cells tt main_tells (good_at main_name) in
      let counted = new_count bound store [] cells d (λ m p. (good_at main_name m p).live) in
      let all = unmet_all store in
      subst (λ names. Related (reached program mem) names)
      (walks_alike bound store d (λ m p. (facts.held_good m p).live) (length mem) (length store) first first
      (omega arith) (omega arith))
      (walks_told (length mem) refs refs first first start start)

  -- ---- the text

  addresses_are : (references : List Reference) (names : List ℕ) → Related references names
      → map address_of references ≡ map A names
  addresses_are [] [] h = refl
  addresses_are [] (n ∷ names) h = absurd h
  addresses_are (r ∷ references) [] h = absurd h
  addresses_are (r ∷ references) (n ∷ names) h = ap (λ a. a ∷ map address_of references) h.0.at
      ∙ ap (λ z. A n ∷ z) (addresses_are references names h.1)

  same_length : (references : List Reference) (names : List ℕ) → Related references names
      → length references ≡ length names
  same_length [] [] h = refl
  same_length [] (n ∷ names) h = absurd h
  same_length (r ∷ references) [] h = absurd h
  same_length (r ∷ references) (n ∷ names) h = ap suc (same_length references names h.1)

  abbrev apart_good : (n m : ℕ) → Good n → Good m → nat_eq (A n) (A m) ≡ nat_eq n m
  apart_good n m g h = told_apart program store base blocks mem facts n m g h

  all_good : (references : List Reference) (names : List ℕ) → Related references names → AllGood A Good apart_good names
  all_good [] [] h = tt
  all_good [] (n ∷ names) h = absurd h
  all_good (r ∷ references) [] h = absurd h
  all_good (r ∷ references) (n ∷ names) h = (h.0.good, all_good references names h.1)

  values_good : (vs : List Value) → HoldGood program store base blocks mem facts vs → ValuesGood A Good apart_good vs
  values_good [] h = tt
  values_good (v ∷ vs) h = (one v (λ m p. h m (omega arith)), values_good vs (λ m p. h m (omega arith)))
    where
      one : (v : Value) → ((m : ℕ) → 0 < Rattle.static_layout.specs.roopl_semantics.Laws.one_if_name m v
          → IsGood store m)
          → ValueGood A Good apart_good v
      one (Word w) g = tt
      one Nil g = tt
      one (Name n) g = g n (let e = Rattle.refine_frame.proofs.meaning_sound_laws.Removal.one_name n in omega arith)

  abbrev moved : Object → Object
  moved o = record { head = o.head; count = o.count; cells = map (renamed A) o.cells }

  object_is_told : (r : Reference) (n : ℕ) → Match program store base blocks mem facts r n
      → object_told program mem r ≡ moved (object_at store n)
  object_is_told r n m =
      let o = object_at store n in
      let word : word_at mem r.at ≡ head_word program o.head = ap (word_at mem) m.at ∙ facts.head n m.good in
      let told = head_is_told program store base blocks mem facts r.type o.head m.fit in
      three (ap (head_told program r.type) word ∙ told.told)
      (ap (λ a. word_at mem (a + COUNT_WORD)) m.at ∙ facts.count n m.good)
      (values_are_told program store base blocks mem facts (r.at + HEADER_WORDS) (types_at program mem r) o.cells
      (match_tells r n m) (good_at n))
    where
      object_of : Head → ℕ → List Value → Object
      object_of h c vs = record { head = h; count = c; cells = vs }

      three : {h h' : Head} {c c' : ℕ} {vs vs' : List Value} → h ≡ h' → c ≡ c' → vs ≡ vs'
          → object_of h c vs ≡ object_of h' c' vs'
      three e f g = cc

  lines_are_told : (names : List ℕ) → AllGood A Good apart_good names → (references : List Reference) (rest : List ℕ)
      → Related references rest → lines_told program mem (map A names) references
      ≡ object_lines program store names rest
  lines_are_told names all [] [] h = refl
  lines_are_told names all [] (n ∷ rest) h = absurd h
  lines_are_told names all (r ∷ references) [] h = absurd h
  lines_are_told names all (r ∷ references) (n ∷ rest) h =
      let o = object_at store n in
      let tail = lines_told program mem (map A names) references in
      ap (λ (x : Object). object_text program (map A names) r.at x ++ tail) (object_is_told r n h.0)
      ∙ ap (λ a. head_line (number_shown (map A names) a) (head_shown program o.head) o.count
      ++ cell_lines program (map A names) o.head (map (renamed A) o.cells) ++ tail)
      h.0.at
      ∙ ap (λ z. head_line z (head_shown program o.head) o.count
      ++ cell_lines program (map A names) o.head (map (renamed A) o.cells) ++ tail)
      (number_there A Good apart_good names n all h.0.good)
      ∙ ap (λ z. head_line (number_shown names n) (head_shown program o.head) o.count
      ++ z ++ tail) (lines_there A Good apart_good program names o.head o.cells all
      (values_good o.cells (good_at n)))
      ∙ ap (λ z. object_text program names n o ++ z) (lines_are_told names all references rest h.1)

  pub report_is_told : (bound : ℕ) → Descending bound store → length store ≤ length mem
      → live_count store ≡ length (numbered store) → report_told program mem ≡ report program store
  report_is_told bound d small live =
      let refs = reached program mem in
      let names = numbered store in
      let rel = reached_is_numbered bound d small in
      let all = all_good refs names rel in
      let cells = (object_at store main_name).cells in
      let told = values_told mem (statics_at + HEADER_WORDS) (types_of (main_fields program)) in
      let main_is : told ≡ map (renamed A) cells = values_are_told program store base blocks mem facts
      (statics_at + HEADER_WORDS)
      (types_of (main_fields program)) cells main_tells (good_at main_name) in
      ap (λ xs. field_lines [] xs (main_fields program) told ++ lines_told program mem xs refs
      ++ live_line (length refs)) (addresses_are refs names rel)
      ∙ ap (λ vs. field_lines [] (map A names) (main_fields program) vs ++ lines_told program mem (map A names) refs
      ++ live_line (length refs)) main_is
      ∙ ap (λ z. z ++ lines_told program mem (map A names) refs ++ live_line (length refs))
      (fields_there A Good apart_good [] names (main_fields program) cells all
      (values_good cells (good_at main_name)))
      ∙ ap (λ z. field_lines [] names (main_fields program) cells ++ z ++ live_line (length refs))
      (lines_are_told names all refs names rel)
      ∙ ap (λ k. field_lines [] names (main_fields program) cells ++ object_lines program store names names
      ++ live_line k) (same_length refs names rel ∙ sym live)

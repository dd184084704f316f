-- The names of an accepted program's fields are ASCII.
use Rattle.std.proofs.Common.{◌≡◌, sym, ap, subst, refl, ℕ, zero, suc, ◌≤◌, Bool, true, false, List, [], ◌∷◌, ◌++◌}
use Rattle.std.proofs.Common.{length, Option, None, arith, slice_get}
use Rattle.std.specs.List.{All, flat_map}
use Rattle.std.specs.Option.{unwrap_or}
use Rattle.std.specs.Str.{IsAscii}
use Rattle.std.specs.Prelude.{nat_lt}
use Rattle.std.proofs.lemmas.Bool.{ltb-true, ltb-false}
use Rattle.std.proofs.lemmas.List.Elements.{All-head, All-tail, All-nil, All-cons, All-append}
use Rattle.meaning_reached.specs.rpp_tree.declared.tree.Ident.{Ident}
use Rattle.meaning_reached.specs.rpp_tree.declared.tree.Var.{Var}
use Rattle.refine_frame.proofs.rpp_words_laws.AsciiNames.{name_bytes_ascii}
use Rattle.meaning_reached.specs.rpp_tree.Names.{IsName}
use Rattle.meaning_reached.specs.rpp_tree.Parts.{type_names, var_names, procedure_names, parent_names, class_names, source_names}
use Rattle.meaning_reached.specs.rpp_tree.Tree.{ClassText, Source}
use Rattle.refine_frame.specs.class_rules.Chains.{class_line}
use Rattle.refine_frame.specs.class_rules.First.{each_below}
use Rattle.refine_frame.specs.class_rules.Members.{class_at, no_class, fields_along}
use Rattle.refine_frame.specs.class_rules.Table.{table_of, fields_in}
use Rattle.refine_frame.proofs.class_rules_laws.Numbers.{length-each_below, each_below-get}
use Rattle.refine_frame.specs.class_rules.Program.{IsAccepted}
use Rattle.static_layout.specs.roopl_semantics.Source.{main_fields}
use Rattle.refine_frame.specs.class_rules.Classes.{main_of, class_fields}
use Rattle.store_report.specs.Ascii.{HasAsciiName, AreAscii}

name_ascii : (text : List ℕ) → IsName text → IsAscii text
name_ascii text named = name_bytes_ascii text named.name_bytes

-- parts of what holds for all

left : {A : Type 0} (P : A → Type 0) (xs ys : List A) → All P (xs ++ ys) → All P xs
left P [] ys all = All-nil P
left P (x ∷ xs) ys all = All-cons P x xs (All-head P x (xs ++ ys) all) (left P xs ys (All-tail P x (xs ++ ys) all))

right : {A : Type 0} (P : A → Type 0) (xs ys : List A) → All P (xs ++ ys) → All P ys
right P [] ys all = all
right P (x ∷ xs) ys all = right P xs ys (All-tail P x (xs ++ ys) all)

abbrev Named : Ident → Type 0
Named name = IsName name.text

ascii_fields : (fields : List Var) → All Named (flat_map var_names fields) → All HasAsciiName fields
ascii_fields [] all = All-nil HasAsciiName
ascii_fields (field ∷ fields) all =
    let own = left Named (var_names field) (flat_map var_names fields) all in
    let name = All-head Named field.name [] (right Named (type_names field.kind) (field.name ∷ []) own) in
    All-cons HasAsciiName field fields (name_ascii field.name.text name)
    (ascii_fields fields (right Named (var_names field) (flat_map var_names fields) all))

ascii_class : (class : ClassText) → All Named (class_names class) → All HasAsciiName class.fields
ascii_class class all =
    let inner = All-tail Named class.name (parent_names class.parent ++ flat_map var_names class.fields
    ++ flat_map procedure_names class.methods) all in
    ascii_fields class.fields (by_parts (parent_names class.parent) (flat_map var_names class.fields)
    (flat_map procedure_names class.methods) inner)
  where
    by_parts : (xs ys zs : List Ident) → All Named (xs ++ ys ++ zs) → All Named ys
    by_parts xs ys zs all = right Named xs ys (left Named (xs ++ ys) zs all)

ascii_at : (classes : List ClassText) (k : ℕ) → All Named (flat_map class_names classes)
    → All HasAsciiName (unwrap_or (slice_get classes k) no_class).fields
ascii_at [] k all = All-nil HasAsciiName
ascii_at (class ∷ classes) zero all = ascii_class class
    (left Named (class_names class) (flat_map class_names classes) all)
ascii_at (class ∷ classes) (suc k) all = ascii_at classes k
    (right Named (class_names class) (flat_map class_names classes) all)

ascii_along : (program : Source) (line : List ℕ) → All Named (source_names program)
    → All HasAsciiName (fields_along program line)
ascii_along program [] all = All-nil HasAsciiName
ascii_along program (class ∷ below) all =
    All-append HasAsciiName (class_at program class).fields (fields_along program below)
    (ascii_at program.classes class all) (ascii_along program below all)

pub ascii_main_fields : (program : Source) → IsAccepted program → All HasAsciiName (main_fields program)
ascii_main_fields program accepted = ascii_along program (class_line program (main_of program).class)
    accepted.limits.names

pub ascii_class_fields : (program : Source) (class : ℕ) → IsAccepted program
    → All HasAsciiName (class_fields program class)
ascii_class_fields program class accepted = ascii_along program (class_line program class) accepted.limits.names

-- the names of its classes are too

ascii_name_at : (classes : List ClassText) (k : ℕ) → All Named (flat_map class_names classes)
    → IsAscii (unwrap_or (slice_get classes k) no_class).name.text
ascii_name_at [] k all = λ i. omega arith
ascii_name_at (class ∷ classes) zero all =
    name_ascii class.name.text (All-head Named class.name
    (parent_names class.parent ++ flat_map var_names class.fields ++ flat_map procedure_names class.methods)
    (left Named (class_names class) (flat_map class_names classes) all))
ascii_name_at (class ∷ classes) (suc k) all = ascii_name_at classes k
    (right Named (class_names class) (flat_map class_names classes) all)

pub ascii_class_name : (program : Source) (class : ℕ) → IsAccepted program → IsAscii (class_at program class).name.text
ascii_class_name program class accepted = ascii_name_at program.classes class accepted.limits.names

-- all names that a report prints

past_none : {A : Type 0} (xs : List A) (k : ℕ) → length xs ≤ k → slice_get xs k ≡ None
past_none [] k h = refl
past_none (x ∷ xs) zero h = absurd (omega arith)
past_none (x ∷ xs) (suc k) h = past_none xs k (omega arith)

pub names_ascii : (program : Source) → IsAccepted program → AreAscii program (table_of program)
names_ascii program accepted = record { fields = fields; classes = λ class. ascii_class_name program class accepted }
  where
    fields : (class : ℕ) → All HasAsciiName (fields_in (table_of program) class)
    fields class = by (nat_lt class (length program.classes)) refl
      where
        by : (b : Bool) → nat_lt class (length program.classes) ≡ b
            → All HasAsciiName (fields_in (table_of program) class)
        by true e = subst (All HasAsciiName) (sym (each_below-get (class_fields program) (length program.classes) class
            []
            (ltb-true class (length program.classes) e))) (ascii_class_fields program class accepted)
        by false e =
            let past = ltb-false class (length program.classes) e in
            let none : fields_in (table_of program) class ≡ [] =
            ap (λ (o : Option (List Var)). unwrap_or o []) (past_none
            (each_below (class_fields program) (length program.classes)) class
            (omega (arith, past, length-each_below (class_fields program) (length program.classes)))) in
            subst (All HasAsciiName) (sym none) (All-nil HasAsciiName)

-- The inverse of a list of statements, and what inverting twice gives.
use Rattle.std.proofs.Common.{◌≡◌, refl, sym, ap, ◌∙◌, List, [], ◌∷◌, ◌++◌, map, reverse, Bool, true, false}
use Rattle.std.specs.Prelude.{not, if◌then◌else◌}
use Rattle.std.proofs.lemmas.List.{reverse-append}
use Rattle.rpp_tree.specs.Tree.{Statement, Statements, Update, If, From, Construct, Local, Call, End, Then, joined}
use Rattle.rpp_tree.specs.Tree.{Procedure, ClassText, Source}
use Rattle.rpp_tree.specs.declared.tree.UpdateOp.{UpdateOp}
use Rattle.rpp_tree.specs.declared.tree.UpdateOp.TheVariants as update
use Rattle.rpp_tree.specs.declared.tree.Stmt.{Stmt}
use Rattle.rpp_tree.specs.Views.{statement_of, statements_of}
use Rattle.inverse_rules.specs.Inverse.{inverse_as, inverse_statement_as, inverse_operator}
use Rattle.inverse_rules.specs.Inverse.{inverse_procedure, inverse_class, inverse_program}

statements_of-append : (xs ys : List Statement) → statements_of (xs ++ ys)
    ≡ joined (statements_of xs) (statements_of ys)
statements_of-append [] ys = refl
statements_of-append (x ∷ xs) ys = ap (Then x) (statements_of-append xs ys)

map-statement_of-append : (xs ys : List Stmt) → map statement_of (xs ++ ys) ≡ map statement_of xs ++ map statement_of ys
map-statement_of-append [] ys = refl
map-statement_of-append (x ∷ xs) ys = ap (λ l. statement_of x ∷ l) (map-statement_of-append xs ys)

map-reverse : (xs : List Stmt) → map statement_of (reverse xs) ≡ reverse (map statement_of xs)
map-reverse [] = refl
map-reverse (x ∷ xs) =
    ap (map statement_of) (reverse-append (x ∷ []) xs)
    ∙ map-statement_of-append (reverse xs) (x ∷ [])
    ∙ ap (λ l. l ++ statement_of x ∷ []) (map-reverse xs)
    ∙ sym (reverse-append (statement_of x ∷ []) (map statement_of xs))

pub joined-end : (a : Statements) → joined a End ≡ a
joined-end End = refl
joined-end (Then x a) = ap (Then x) (joined-end a)

pub joined_assoc : (a b c : Statements) → joined (joined a b) c ≡ joined a (joined b c)
joined_assoc End b c = refl
joined_assoc (Then x a) b c = ap (Then x) (joined_assoc a b c)

inverse_operator-twice : (op : UpdateOp) → inverse_operator (inverse_operator op) ≡ op
inverse_operator-twice update.Add = refl
inverse_operator-twice update.Sub = refl
inverse_operator-twice update.Xor = refl

abbrev call_direction : Bool → Bool → Bool
call_direction turn back = if turn then not back else back

call_direction-twice : (turn back : Bool) → call_direction turn (call_direction turn back) ≡ back
call_direction-twice true true = refl
call_direction-twice true false = refl
call_direction-twice false back = refl

module _ (turn : Bool) where
  -- undone from the last on
  abbrev undone : List Statement → List Statement
  undone [] = []
  undone (x ∷ xs) = undone xs ++ inverse_statement_as turn x ∷ []

  inverse-statements_of : (xs : List Statement) → inverse_as turn (statements_of xs) ≡ statements_of (undone xs)
  inverse-statements_of [] = refl
  inverse-statements_of (x ∷ xs) =
      ap (λ r. joined r (Then (inverse_statement_as turn x) End)) (inverse-statements_of xs)
      ∙ sym (statements_of-append (undone xs) (inverse_statement_as turn x ∷ []))

  undone_reverse : (xs : List Stmt) → reverse (map (λ s. inverse_statement_as turn (statement_of s)) xs)
      ≡ undone (map statement_of xs)
  undone_reverse [] = refl
  undone_reverse (x ∷ xs) =
      reverse-append (inverse_statement_as turn (statement_of x) ∷ [])
      (map (λ s. inverse_statement_as turn (statement_of s)) xs)
      ∙ ap (λ l. l ++ inverse_statement_as turn (statement_of x) ∷ []) (undone_reverse xs)

  -- the inverted statements, reversed, are the inverse
  pub block_undone : (items out turned : List Stmt) → map statement_of out
      ≡ map (λ s. inverse_statement_as turn (statement_of s)) items → turned ≡ reverse out
      → statements_of (map statement_of turned) ≡ inverse_as turn (statements_of (map statement_of items))
  block_undone items out turned h k =
      ap statements_of (ap (map statement_of) k ∙ map-reverse out ∙ ap reverse h ∙ undone_reverse items)
      ∙ sym (inverse-statements_of (map statement_of items))

  pub inverse-joined : (a b : Statements) → inverse_as turn (joined a b)
      ≡ joined (inverse_as turn b) (inverse_as turn a)
  inverse-joined End b = sym (joined-end (inverse_as turn b))
  inverse-joined (Then x a) b =
      ap (λ r. joined r (Then (inverse_statement_as turn x) End)) (inverse-joined a b)
      ∙ joined_assoc (inverse_as turn b) (inverse_as turn a) (Then (inverse_statement_as turn x) End)

  mutual
    -- what is undone twice is as it was
    pub inverse_statement-twice : (s : Statement) → inverse_statement_as turn (inverse_statement_as turn s) ≡ s
    inverse_statement-twice (Update at op target value) = ap (λ o. Update at o target value) (inverse_operator-twice op)
    inverse_statement-twice (If at test taken other after) =
        ap (λ b. If at test b (inverse_as turn (inverse_as turn other)) after) (inverse-twice taken)
        ∙ ap (λ b. If at test taken b after) (inverse-twice other)
    inverse_statement-twice (From at entry first again exit) =
        ap (λ b. From at entry b (inverse_as turn (inverse_as turn again)) exit) (inverse-twice first)
        ∙ ap (λ b. From at entry first b exit) (inverse-twice again)
    inverse_statement-twice (Construct at class name body end) =
        ap (λ b. Construct at class name b end) (inverse-twice body)
    inverse_statement-twice (Local at var value body end_var end_value) =
        ap (λ b. Local at var value b end_var end_value) (inverse-twice body)
    inverse_statement-twice (Call at back receiver method args) =
        ap (λ b. Call at b receiver method args) (call_direction-twice turn back)
    inverse_statement-twice _ = refl

    pub inverse-twice : (b : Statements) → inverse_as turn (inverse_as turn b) ≡ b
    inverse-twice End = refl
    inverse-twice (Then x b) =
        inverse-joined (inverse_as turn b) (Then (inverse_statement_as turn x) End)
        ∙ ap (λ s. Then s (inverse_as turn (inverse_as turn b))) (inverse_statement-twice x)
        ∙ ap (Then x) (inverse-twice b)

inverse_procedure-twice : (methods : List Procedure) → map inverse_procedure (map inverse_procedure methods) ≡ methods
inverse_procedure-twice [] = refl
inverse_procedure-twice (method ∷ methods) =
    ap (λ b. record method { body = b } ∷ map inverse_procedure (map inverse_procedure methods))
    (inverse-twice false method.body)
    ∙ ap (λ l. method ∷ l) (inverse_procedure-twice methods)

inverse_class-twice : (classes : List ClassText) → map inverse_class (map inverse_class classes) ≡ classes
inverse_class-twice [] = refl
inverse_class-twice (class ∷ classes) =
    ap (λ m. record class { methods = m } ∷ map inverse_class (map inverse_class classes))
    (inverse_procedure-twice class.methods)
    ∙ ap (λ l. class ∷ l) (inverse_class-twice classes)

pub inverse_program-twice : (program : Source) → inverse_program (inverse_program program) ≡ program
inverse_program-twice program = ap (λ c. record program { classes = c }) (inverse_class-twice program.classes)

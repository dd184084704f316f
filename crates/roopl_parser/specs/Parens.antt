-- How deep parentheses are nested in one another, in the tokens of a syntax tree. Indexes go with
-- the parentheses around them.
use Rattle.std.specs.Prelude.{ℕ, suc, max, List}
use Rattle.roopl_lexer.specs.rpp_tree.declared.tree.Ident.{Ident}
use Rattle.roopl_lexer.specs.rpp_tree.declared.tree.Var.{Var}
use Rattle.roopl_lexer.specs.rpp_tree.Tree.{Expression, Lvalue, Creation, Statement, Statements, Procedure}
use Rattle.roopl_lexer.specs.rpp_tree.Tree.{ClassText}
use Rattle.roopl_lexer.specs.declared.token.Token.{Token}
use Rattle.roopl_lexer.specs.declared.token.Keyword.{Keyword}
use Rattle.roopl_parser.specs.Grammar.{IsExpr, number, null, read, parens, weaker, binary}
use Rattle.roopl_parser.specs.Grammar.{IsIndexed, whole, item, IsPlace, place, IsSized, one, sized}
use Rattle.roopl_parser.specs.Grammar.{IsMade, words, named, IsTarget, own, on, IsAssigned, update}
use Rattle.roopl_parser.specs.Grammar.{swap, IsStatement, assign, conditional, repeat, construct}
use Rattle.roopl_parser.specs.Grammar.{declare, make, delete, copy, uncopy, call, uncall, skip}
use Rattle.roopl_parser.specs.Grammar.{IsBranches, branches, IsScope, scope, IsBlock, block}
use Rattle.roopl_parser.specs.Grammar.{IsStatements, end, then, IsMethod, method, IsMethods}
use Rattle.roopl_parser.specs.Grammar.{no_method, methods, IsClass, class, IsClasses, no_class}
use Rattle.roopl_parser.specs.Grammar.{classes}

abbrev mutual
  pub parens_of : {k : ℕ} {ts rest : List Token} {e : Expression} → IsExpr k ts rest e → ℕ
  parens_of number = 0
  parens_of null = 0
  parens_of (read i) = index_parens i
  parens_of (parens d) = suc (parens_of d)
  parens_of (weaker d) = parens_of d
  parens_of (binary d h r) = max (parens_of d) (parens_of r)

  pub index_parens : {name : Ident} {ts rest : List Token} {l : Lvalue} → IsIndexed name ts rest l
      → ℕ
  index_parens whole = 0
  index_parens (item d) = parens_of d

abbrev pub place_parens : {ts rest : List Token} {l : Lvalue} → IsPlace ts rest l → ℕ
place_parens (place i) = index_parens i

abbrev pub sized_parens : {name : Ident} {ts rest : List Token} {c : Creation}
    → IsSized name ts rest c → ℕ
sized_parens one = 0
sized_parens (sized d) = parens_of d

abbrev pub made_parens : {ts rest : List Token} {c : Creation} → IsMade ts rest c → ℕ
made_parens (words d) = parens_of d
made_parens (named z) = sized_parens z

abbrev pub target_parens : {at : ℕ} {back : _} {name : Ident} {ts rest : List Token} {x : Statement}
    → IsTarget at back name ts rest x → ℕ
target_parens (own r) = 0
target_parens (on i r) = index_parens i

abbrev pub assigned_parens : {at : ℕ} {p : Lvalue} {ts rest : List Token} {x : Statement}
    → IsAssigned at p ts rest x → ℕ
assigned_parens (update h d) = parens_of d
assigned_parens (swap q) = place_parens q

abbrev mutual
  pub statement_parens : {ts rest : List Token} {x : Statement} → IsStatement ts rest x → ℕ
  statement_parens (assign i r) = max (index_parens i) (assigned_parens r)
  statement_parens (conditional d r) = max (parens_of d) (branch_parens r)
  statement_parens (repeat d r) = max (parens_of d) (branch_parens r)
  statement_parens (construct r) = block_parens r
  statement_parens (declare v d r) = max (parens_of d) (scope_parens r)
  statement_parens (make m p) = max (made_parens m) (place_parens p)
  statement_parens (delete m p) = max (made_parens m) (place_parens p)
  statement_parens (copy k p q) = max (place_parens p) (place_parens q)
  statement_parens (uncopy k p q) = max (place_parens p) (place_parens q)
  statement_parens (call r) = target_parens r
  statement_parens (uncall r) = target_parens r
  statement_parens skip = 0

  pub branch_parens : {first second third : Keyword} {ts rest : List Token} {a b : Statements}
      {e : Expression} → IsBranches first second third ts rest a b e → ℕ
  branch_parens (branches a b d) = max (block_parens a) (max (block_parens b) (parens_of d))

  pub scope_parens : {ts rest : List Token} {b : Statements} {w : Var} {e : Expression}
      → IsScope ts rest b w e → ℕ
  scope_parens (scope b v d) = max (block_parens b) (parens_of d)

  pub block_parens : {ts rest : List Token} {b : Statements} → IsBlock ts rest b → ℕ
  block_parens (block r rs) = max (statement_parens r) (list_parens rs)

  pub list_parens : {ts rest : List Token} {xs : List Statement} → IsStatements ts rest xs → ℕ
  list_parens end = 0
  list_parens (then r rs) = max (statement_parens r) (list_parens rs)

abbrev pub method_parens : {ts rest : List Token} {x : Procedure} → IsMethod ts rest x → ℕ
method_parens (method p b) = block_parens b

abbrev pub methods_parens : {ts rest : List Token} {xs : List Procedure} → IsMethods ts rest xs → ℕ
methods_parens no_method = 0
methods_parens (methods r rs) = max (method_parens r) (methods_parens rs)

abbrev pub class_parens : {ts rest : List Token} {x : ClassText} → IsClass ts rest x → ℕ
class_parens (class p f m) = methods_parens m

abbrev pub classes_parens : {ts rest : List Token} {xs : List ClassText} → IsClasses ts rest xs → ℕ
classes_parens no_class = 0
classes_parens (classes r rs) = max (class_parens r) (classes_parens rs)

-- The inverse of every form of statement, computed; t, u are places, v, w expressions.
use Rattle.std.proofs.Common.{◌≡◌, List, true, false, Option, refl}
use Rattle.rpp_tree.specs.declared.tree.Ident.{Ident}
use Rattle.rpp_tree.specs.declared.tree.Var.{Var}
use Rattle.rpp_tree.specs.declared.tree.VarType.{VarType}
use Rattle.rpp_tree.specs.declared.tree.UpdateOp.TheVariants as update
use Rattle.rpp_tree.specs.Tree.{Expression, Lvalue, Creation, Statements, Update, Swap, If, From, Construct, Local, New}
use Rattle.rpp_tree.specs.Tree.{Delete, Copy, Uncopy, Call, Skip, End, Then}
use Rattle.inverse_rules.specs.Inverse.{inverse, inverse_as}

module _ (t u : Lvalue) (v w : Expression) (made : Creation) (kind : VarType) (class name method : Ident) (x y : Var)
    (receiver : Option Lvalue) (args : List Ident) where
  -- two statements, the second of them undone first
  abbrev two : Statements
  two = Then (Update 3 update.Add t v) (Then (Swap 9 t u) End)

  abbrev two_undone : Statements
  two_undone = Then (Swap 9 t u) (Then (Update 3 update.Sub t v) End)

  updates : inverse (Then (Update 1 update.Add t v) (Then (Update 2 update.Sub u w)
      (Then (Update 3 update.Xor t w) End))) ≡ Then (Update 3 update.Xor t w)
      (Then (Update 2 update.Add u w) (Then (Update 1 update.Sub t v) End))
  updates = refl

  swap_and_skip : inverse (Then (Skip 1) (Then (Swap 6 t u) End)) ≡ Then (Swap 6 t u) (Then (Skip 1) End)
  swap_and_skip = refl

  conditional : inverse (Then (If 1 v two End w) End) ≡ Then (If 1 w two_undone End v) End
  conditional = refl

  loop : inverse (Then (From 1 v two End w) End) ≡ Then (From 1 w two_undone End v) End
  loop = refl

  loop_again : inverse (Then (From 1 v End two w) End) ≡ Then (From 1 w End two_undone v) End
  loop_again = refl

  construct : inverse (Then (Construct 1 class name two name) End) ≡ Then (Construct 1 class name two_undone name) End
  construct = refl

  local : inverse (Then (Local 1 x v two y w) End) ≡ Then (Local 1 y w two_undone x v) End
  local = refl

  new_and_delete : inverse (Then (New 1 made t) (Then (Delete 5 made u) End))
      ≡ Then (New 5 made u) (Then (Delete 1 made t) End)
  new_and_delete = refl

  copy_and_uncopy : inverse (Then (Copy 1 kind t u) (Then (Uncopy 7 kind u t) End))
      ≡ Then (Copy 7 kind u t) (Then (Uncopy 1 kind t u) End)
  copy_and_uncopy = refl

  call_and_uncall : inverse (Then (Call 1 false receiver method args) (Then (Call 8 true receiver method args) End))
      ≡ Then (Call 8 false receiver method args) (Then (Call 1 true receiver method args) End)
  call_and_uncall = refl

  -- in a program whose methods are inverted, a call stays a call
  call_in_a_program : inverse_as false (Then (Call 1 false receiver method args) (Then (Skip 4) End))
      ≡ Then (Skip 4) (Then (Call 1 false receiver method args) End)
  call_in_a_program = refl

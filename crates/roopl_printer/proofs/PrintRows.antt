-- The texts of programs, computed.
use Rattle.std.proofs.Common.{◌≡◌, ℕ, false, List, [], ◌∷◌, Some, None, refl, codes}
use Rattle.roopl_parser.specs.rpp_tree.declared.tree.Ident.{Ident}
use Rattle.roopl_parser.specs.rpp_tree.declared.tree.Var.{Var}
use Rattle.roopl_parser.specs.rpp_tree.declared.tree.VarType.{VarType}
use Rattle.roopl_parser.specs.rpp_tree.declared.tree.VarType.TheVariants as type
use Rattle.roopl_parser.specs.rpp_tree.declared.tree.BinOp.TheVariants as op
use Rattle.roopl_parser.specs.rpp_tree.declared.tree.UpdateOp.TheVariants as update
use Rattle.roopl_parser.specs.rpp_tree.Tree.{Expression, Number, Null, Variable, Element, Binary, Whole, Item, Ints, Object}
use Rattle.roopl_parser.specs.rpp_tree.Tree.{Statements, Update, If, From, Local, New, Call, Skip, End, Then, Source}
use Rattle.std.specs.Fmt.{digits}
use Rattle.roopl_printer.specs.Spelled.{printed}

abbrev called : List ℕ → Ident
called text = record { at = 0; text = text }

abbrev var : VarType → List ℕ → Var
var kind text = record { kind = kind; name = called text }

abbrev x : Expression
x = Variable (called (codes "x"))

-- a class with the fields x and a, and a method main with these statements
abbrev main_of : Statements → Source
main_of body = record {
  classes = record {
    name = called (codes "P");
    parent = None;
    fields = var type.Int (codes "x") ∷ var type.IntArray (codes "a") ∷ [];
    methods = record { name = called (codes "main"); params = []; body = body } ∷ [];
  }
      ∷ [];
}

nothing : printed (record { classes = [] }) ≡ []
nothing = refl

branches : printed (main_of (Then (If 0 (Binary 0 op.Equal x (Number 0 1))
    (Then (Update 0 update.Sub (Whole (called (codes "x"))) (Number 0 1)) End) (Then (Skip 0) End)
    (Binary 0 op.Equal x (Number 0 0))) End))
    ≡ codes "class P int x int [ ] a\nmethod main ( )\nif x = 1 then\nx -= 1 else\nskip fi x = 0\n"
unfolding digits
branches = refl

parentheses : printed (main_of (Then (Update 0 update.Add (Item (called (codes "a")) (Binary 0 op.Sub x (Number 0 1)))
    (Binary 0 op.Mul (Binary 0 op.Add (Number 0 10) x) (Element (called (codes "a")) (Number 0 207)))) End))
    ≡ codes "class P int x int [ ] a\nmethod main ( )\na [ x - 1 ] += ( 10 + x ) * a [ 207 ]\n"
unfolding digits
parentheses = refl

loop_with_locals : printed (main_of (Then (From 0 (Binary 0 op.Equal x (Number 0 0))
    (Then (Local 0 (var (type.Class (called (codes "P"))) (codes "p'")) (Null 0)
    (Then (New 0 (Object (called (codes "P"))) (Whole (called (codes "p'")))) End)
    (var (type.Class (called (codes "P"))) (codes "p'")) (Null 0)) End)
    (Then (New 0 (Ints (Number 0 2)) (Whole (called (codes "a")))) End) (Binary 0 op.AtLeast x (Number 0 2)))
    End))
    ≡ codes
    "class P int x int [ ] a\nmethod main ( )\nfrom x = 0 do\nlocal P p' = nil\nnew P p' delocal P p' = nil loop\nnew int [ 2 ] a until x >= 2\n"
unfolding digits
loop_with_locals = refl

two_classes : printed (record {
  classes = record { name = called (codes "A"); parent = Some (called (codes "B")); fields = []; methods = [] }
      ∷ record {
        name = called (codes "B");
        parent = None;
        fields = [];
        methods = record {
          name = called (codes "m");
          params = var type.Int (codes "x") ∷ var (type.ClassArray (called (codes "A"))) (codes "y") ∷ [];
          body = Then (Call 0 false (Some (Item (called (codes "y")) (Number 0 0))) (called (codes "m"))
              (called (codes "x") ∷ called (codes "y") ∷ [])) End;
        }
            ∷ [];
      }
      ∷ [];
})
    ≡ codes "class A inherits B\nclass B\nmethod m ( int x , A [ ] y )\ncall y [ 0 ] :: m ( x , y )\n"
unfolding digits
two_classes = refl

-- The printed tokens of a syntax tree, in the order of the grammar.
use Rattle.std.specs.Prelude.{ℕ, Bool, true, false, List, [], ◌∷◌, ◌++◌, Option, Some, None}
use Rattle.std.specs.List.{flat_map}
use Rattle.roopl_parser.specs.rpp_tree.declared.tree.Ident.{Ident}
use Rattle.roopl_parser.specs.rpp_tree.declared.tree.Var.{Var}
use Rattle.roopl_parser.specs.rpp_tree.declared.tree.VarType.{VarType}
use Rattle.roopl_parser.specs.rpp_tree.declared.tree.VarType.TheVariants as type
use Rattle.roopl_parser.specs.rpp_tree.declared.tree.BinOp.{BinOp}
use Rattle.roopl_parser.specs.rpp_tree.declared.tree.BinOp.TheVariants as op
use Rattle.roopl_parser.specs.rpp_tree.declared.tree.UpdateOp.{UpdateOp}
use Rattle.roopl_parser.specs.rpp_tree.declared.tree.UpdateOp.TheVariants as update
use Rattle.roopl_parser.specs.rpp_tree.Tree.{Expression, Number, Null, Variable, Element, Binary, Lvalue, Whole}
use Rattle.roopl_parser.specs.rpp_tree.Tree.{Item, Creation, Object, Ints, Objects, Statement, Statements}
use Rattle.roopl_parser.specs.rpp_tree.Tree.{Update, Swap, If, From, Construct, Local, New, Delete, Copy, Uncopy}
use Rattle.roopl_parser.specs.rpp_tree.Tree.{Call, Skip, End, Then, Procedure, ClassText, Source}
use Rattle.roopl_parser.specs.rpp_tree.Places.{place_name}
use Rattle.roopl_parser.specs.roopl_lexer.declared.token.Keyword.{Keyword}
use Rattle.roopl_parser.specs.roopl_lexer.declared.token.Keyword.TheVariants as word
use Rattle.roopl_parser.specs.roopl_lexer.declared.token.Symbol.{Symbol}
use Rattle.roopl_parser.specs.roopl_lexer.declared.token.Symbol.TheVariants as sign
use Rattle.roopl_parser.specs.roopl_lexer.declared.token.TokenKind.TheVariants as token
use Rattle.roopl_printer.specs.Printed.{PrintedToken, first, printed_behind, a_word, a_name, a_sign, printed_text}

-- the sign of an operator
abbrev pub operator : BinOp → Symbol
operator op.Add = sign.Plus
operator op.Sub = sign.Minus
operator op.Xor = sign.Caret
operator op.And = sign.Amp
operator op.Or = sign.Bar
operator op.AndAlso = sign.AmpAmp
operator op.OrElse = sign.BarBar
operator op.Less = sign.Less
operator op.Greater = sign.Greater
operator op.AtMost = sign.AtMost
operator op.AtLeast = sign.AtLeast
operator op.Equal = sign.Equal
operator op.NotEqual = sign.NotEqual
operator op.Mul = sign.Star
operator op.Div = sign.Slash
operator op.Rem = sign.Percent

abbrev pub update_sign : UpdateOp → Symbol
update_sign update.Add = sign.AddTo
update_sign update.Sub = sign.SubFrom
update_sign update.Xor = sign.XorInto

abbrev pub in_parentheses : List PrintedToken → List PrintedToken
in_parentheses tokens = a_sign sign.LeftParen ∷ tokens ++ a_sign sign.RightParen ∷ []

abbrev pub in_brackets : List PrintedToken → List PrintedToken
in_brackets tokens = a_sign sign.LeftBracket ∷ tokens ++ a_sign sign.RightBracket ∷ []

-- the parentheses round an operand: only a binary expression has them
abbrev pub opening : Expression → List PrintedToken
opening (Binary at op left right) = a_sign sign.LeftParen ∷ []
opening _ = []

abbrev pub closing : Expression → List PrintedToken
closing (Binary at op left right) = a_sign sign.RightParen ∷ []
closing _ = []

-- the tokens of an operand
abbrev pub operand_tokens : Expression → List PrintedToken → List PrintedToken
operand_tokens e tokens = opening e ++ tokens ++ closing e

abbrev pub spelled_expression : Expression → List PrintedToken
spelled_expression (Number at n) = printed_behind (token.Number n) ∷ []
spelled_expression (Null at) = a_word word.Nil ∷ []
spelled_expression (Variable name) = a_name name ∷ []
spelled_expression (Element name index) = a_name name ∷ in_brackets (spelled_expression index)
spelled_expression (Binary at op left right) =
    operand_tokens left (spelled_expression left) ++ a_sign (operator op)
    ∷ operand_tokens right (spelled_expression right)

-- what follows the name of a place
abbrev pub spelled_index : Lvalue → List PrintedToken
spelled_index (Whole name) = []
spelled_index (Item name index) = in_brackets (spelled_expression index)

abbrev pub spelled_place : Lvalue → List PrintedToken
spelled_place place = a_name (place_name place) ∷ spelled_index place

-- a place at the beginning of a statement
abbrev pub first_place : Lvalue → List PrintedToken
first_place place = first (token.Name (place_name place).text) ∷ spelled_index place

abbrev pub spelled_creation : Creation → List PrintedToken
spelled_creation (Object class) = a_name class ∷ []
spelled_creation (Ints length) = a_word word.Int ∷ in_brackets (spelled_expression length)
spelled_creation (Objects class length) = a_name class ∷ in_brackets (spelled_expression length)

abbrev pub spelled_type : VarType → List PrintedToken
spelled_type type.Int = a_word word.Int ∷ []
spelled_type (type.Class class) = a_name class ∷ []
spelled_type type.IntArray = a_word word.Int ∷ in_brackets []
spelled_type (type.ClassArray class) = a_name class ∷ in_brackets []

-- a type and a name
abbrev pub spelled_var : Var → List PrintedToken
spelled_var var = spelled_type var.kind ++ a_name var.name ∷ []

abbrev pub spelled_receiver : Option Lvalue → List PrintedToken
spelled_receiver None = []
spelled_receiver (Some place) = spelled_place place ++ a_sign sign.DoubleColon ∷ []

abbrev pub after_comma : {A : Type 0} → (A → List PrintedToken) → A → List PrintedToken
after_comma spell x = a_sign sign.Comma ∷ spell x

-- the parts of a list with a comma between two of them
abbrev pub with_commas : {A : Type 0} → (A → List PrintedToken) → List A → List PrintedToken
with_commas spell [] = []
with_commas spell (one ∷ more) = spell one ++ flat_map (after_comma spell) more

abbrev pub name_alone : Ident → List PrintedToken
name_alone name = a_name name ∷ []

abbrev pub spelled_names : List Ident → List PrintedToken
spelled_names names = with_commas name_alone names

abbrev pub spelled_vars : List Var → List PrintedToken
spelled_vars vars = with_commas spelled_var vars

abbrev pub call_word : Bool → Keyword
call_word false = word.Call
call_word true = word.Uncall

-- a word at the beginning of a statement, a method or a class
abbrev pub first_word : Keyword → PrintedToken
first_word keyword = first (token.Word keyword)

-- what a call calls, with the arguments
abbrev pub spelled_target : Option Lvalue → Ident → List Ident → List PrintedToken
spelled_target receiver method args =
    spelled_receiver receiver ++ a_name method ∷ in_parentheses (spelled_names args)

-- a variable with its type, and the value that it is said to have
abbrev pub spelled_binding : Var → Expression → List PrintedToken
spelled_binding var value = spelled_var var ++ a_sign sign.Equal ∷ spelled_expression value

abbrev mutual
  pub spelled_statement : Statement → List PrintedToken
  spelled_statement (Update at op target value) =
      first_place target ++ a_sign (update_sign op) ∷ spelled_expression value
  spelled_statement (Swap at left right) = first_place left ++ a_sign sign.Swap
      ∷ spelled_place right
  spelled_statement (If at test taken other after) =
      first_word word.If ∷ spelled_expression test ++ a_word word.Then ∷ spelled_block taken
      ++ a_word word.Else ∷ spelled_block other ++ a_word word.Fi ∷ spelled_expression after
  spelled_statement (From at entry first again exit) =
      first_word word.From ∷ spelled_expression entry ++ a_word word.Do ∷ spelled_block first
      ++ a_word word.Loop ∷ spelled_block again ++ a_word word.Until ∷ spelled_expression exit
  spelled_statement (Construct at class name body end) =
      first_word word.Construct ∷ a_name class ∷ a_name name ∷ spelled_block body
      ++ a_word word.Destruct ∷ a_name end ∷ []
  spelled_statement (Local at var value body end_var end_value) =
      first_word word.Local ∷ spelled_binding var value ++ spelled_block body ++ a_word word.Delocal
      ∷ spelled_binding end_var end_value
  spelled_statement (New at made target) =
      first_word word.New ∷ spelled_creation made ++ spelled_place target
  spelled_statement (Delete at made target) =
      first_word word.Delete ∷ spelled_creation made ++ spelled_place target
  spelled_statement (Copy at kind source target) =
      first_word word.Copy ∷ spelled_type kind ++ spelled_place source ++ spelled_place target
  spelled_statement (Uncopy at kind source target) =
      first_word word.Uncopy ∷ spelled_type kind ++ spelled_place source ++ spelled_place target
  spelled_statement (Call at back receiver method args) =
      first_word (call_word back) ∷ spelled_target receiver method args
  spelled_statement (Skip at) = first_word word.Skip ∷ []

  pub spelled_block : Statements → List PrintedToken
  spelled_block End = []
  spelled_block (Then one more) = spelled_statement one ++ spelled_block more

abbrev pub spelled_method : Procedure → List PrintedToken
spelled_method method = first_word word.Method ∷ a_name method.name
    ∷ in_parentheses (spelled_vars method.params) ++ spelled_block method.body

abbrev pub spelled_parent : Option Ident → List PrintedToken
spelled_parent None = []
spelled_parent (Some parent) = a_word word.Inherits ∷ a_name parent ∷ []

abbrev pub spelled_class : ClassText → List PrintedToken
spelled_class class = first_word word.Class ∷ a_name class.name ∷ spelled_parent class.parent
    ++ flat_map spelled_var class.fields ++ flat_map spelled_method class.methods

-- the tokens of a program
abbrev pub spelled : Source → List PrintedToken
spelled program = flat_map spelled_class program.classes

-- the text of a program
abbrev pub printed : Source → List ℕ
printed program = printed_text (spelled program)

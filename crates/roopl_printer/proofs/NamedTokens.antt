-- What holds for the words, the signs, the numbers and the names of a program holds for its printed
-- tokens.
use Rattle.std.proofs.Common.{ℕ, List, [], ◌∷◌, ◌++◌, Option, Some, None}
use Rattle.std.specs.List.{flat_map, AllByRecursion}
use Rattle.roopl_parser.specs.rpp_tree.declared.tree.Ident.{Ident}
use Rattle.roopl_parser.specs.rpp_tree.declared.tree.Var.{Var}
use Rattle.roopl_parser.specs.rpp_tree.declared.tree.VarType.{VarType}
use Rattle.roopl_parser.specs.rpp_tree.declared.tree.VarType.TheVariants as type
use Rattle.roopl_parser.specs.rpp_tree.Tree.{Expression, Number, Null, Variable, Element, Binary, Lvalue, Whole, Item, Creation}
use Rattle.roopl_parser.specs.rpp_tree.Tree.{Object, Ints, Objects, Statement, Statements, Update, Swap, If, From, Construct, Local}
use Rattle.roopl_parser.specs.rpp_tree.Tree.{New, Delete, Copy, Uncopy, Call, Skip, End, Then, Procedure, ClassText, Source}
use Rattle.roopl_parser.specs.rpp_tree.Parts.{expression_names, lvalue_names, receiver_names, creation_names, type_names, var_names}
use Rattle.roopl_parser.specs.rpp_tree.Parts.{statement_names, block_names, procedure_names, parent_names, class_names, source_names}
use Rattle.roopl_parser.specs.roopl_lexer.declared.token.Keyword.{Keyword}
use Rattle.roopl_parser.specs.roopl_lexer.declared.token.Keyword.TheVariants as word
use Rattle.roopl_parser.specs.roopl_lexer.declared.token.Symbol.{Symbol}
use Rattle.roopl_parser.specs.roopl_lexer.declared.token.Symbol.TheVariants as sign
use Rattle.roopl_parser.specs.roopl_lexer.declared.token.TokenKind.{TokenKind}
use Rattle.roopl_parser.specs.roopl_lexer.declared.token.TokenKind.TheVariants as token
use Rattle.roopl_printer.specs.Printed.{PrintedToken, a_name, a_sign, a_word}
use Rattle.roopl_printer.specs.Spelled.{first_word, operator, update_sign, opening, closing, operand_tokens}
use Rattle.roopl_printer.specs.Spelled.{spelled_expression, in_parentheses, in_brackets, spelled_index, spelled_place}
use Rattle.roopl_printer.specs.Spelled.{first_place, spelled_creation, spelled_type, spelled_var, spelled_receiver}
use Rattle.roopl_printer.specs.Spelled.{after_comma, name_alone, spelled_names, spelled_vars, call_word, spelled_target}
use Rattle.roopl_printer.specs.Spelled.{spelled_binding, spelled_statement, spelled_block, spelled_method}
use Rattle.roopl_printer.specs.Spelled.{spelled_parent, spelled_class, spelled}

module _ (P : TokenKind → Type 0) (words : (k : Keyword) → P (token.Word k)) (signs : (s : Symbol) → P (token.Sign s))
    (numbers : (n : ℕ) → P (token.Number n)) where
  abbrev pub Named : List Ident → Type 0
  Named names = AllByRecursion (λ name. P (token.Name name.text)) names

  abbrev pub Holds : List PrintedToken → Type 0
  Holds tokens = AllByRecursion (λ t. P t.kind) tokens

  join : (xs ys : List PrintedToken) → Holds xs → Holds ys → Holds (xs ++ ys)
  join [] ys a b = b
  join (x ∷ xs) ys a b = (a.0, join xs ys a.1 b)

  split : (xs ys : List Ident) → Named (xs ++ ys) → Named xs × Named ys
  split [] ys h = (tt, h)
  split (x ∷ xs) ys h = let s = split xs ys h.1 in ((h.0, s.0), s.1)

  brackets : (xs : List PrintedToken) → Holds xs → Holds (in_brackets xs)
  brackets xs h = (signs sign.LeftBracket, join xs (a_sign sign.RightBracket ∷ []) h (signs sign.RightBracket, tt))

  parentheses : (xs : List PrintedToken) → Holds xs → Holds (in_parentheses xs)
  parentheses xs h = (signs sign.LeftParen, join xs (a_sign sign.RightParen ∷ []) h (signs sign.RightParen, tt))

  opens : (e : Expression) → Holds (opening e)
  opens (Number at n) = tt
  opens (Null at) = tt
  opens (Variable name) = tt
  opens (Element name index) = tt
  opens (Binary at op left right) = (signs sign.LeftParen, tt)

  closes : (e : Expression) → Holds (closing e)
  closes (Number at n) = tt
  closes (Null at) = tt
  closes (Variable name) = tt
  closes (Element name index) = tt
  closes (Binary at op left right) = (signs sign.RightParen, tt)

  operand_of : (e : Expression) → Holds (spelled_expression e) → Holds (operand_tokens e (spelled_expression e))
  operand_of e h = join (opening e ++ spelled_expression e) (closing e)
      (join (opening e) (spelled_expression e) (opens e) h) (closes e)

  expression : (e : Expression) → Named (expression_names e) → Holds (spelled_expression e)
  expression (Number at n) h = (numbers n, tt)
  expression (Null at) h = (words word.Nil, tt)
  expression (Variable name) h = (h.0, tt)
  expression (Element name index) h = (h.0, brackets (spelled_expression index) (expression index h.1))
  expression (Binary at op left right) h =
      let s = split (expression_names left) (expression_names right) h in
      join (operand_tokens left (spelled_expression left))
      (a_sign (operator op) ∷ operand_tokens right (spelled_expression right))
      (operand_of left (expression left s.0))
      (signs (operator op), operand_of right (expression right s.1))

  index_of : (p : Lvalue) → Named (lvalue_names p) → Holds (spelled_index p)
  index_of (Whole name) h = tt
  index_of (Item name index) h = brackets (spelled_expression index) (expression index h.1)

  place : (p : Lvalue) → Named (lvalue_names p) → Holds (spelled_place p)
  place (Whole name) h = (h.0, tt)
  place (Item name index) h = (h.0, index_of (Item name index) h)

  line_place : (p : Lvalue) → Named (lvalue_names p) → Holds (first_place p)
  line_place (Whole name) h = (h.0, tt)
  line_place (Item name index) h = (h.0, index_of (Item name index) h)

  creation : (m : Creation) → Named (creation_names m) → Holds (spelled_creation m)
  creation (Object class) h = (h.0, tt)
  creation (Ints length) h = (words word.Int, brackets (spelled_expression length) (expression length h))
  creation (Objects class length) h = (h.0, brackets (spelled_expression length) (expression length h.1))

  kind_of : (k : VarType) → Named (type_names k) → Holds (spelled_type k)
  kind_of type.Int h = (words word.Int, tt)
  kind_of (type.Class class) h = (h.0, tt)
  kind_of type.IntArray h = (words word.Int, (signs sign.LeftBracket, (signs sign.RightBracket, tt)))
  kind_of (type.ClassArray class) h = (h.0, (signs sign.LeftBracket, (signs sign.RightBracket, tt)))

  variable : (v : Var) → Named (var_names v) → Holds (spelled_var v)
  variable v h =
      let s = split (type_names v.kind) (v.name ∷ []) h in
      join (spelled_type v.kind) (a_name v.name ∷ []) (kind_of v.kind s.0) (s.1.0, tt)

  receiver_of : (r : Option Lvalue) → Named (receiver_names r) → Holds (spelled_receiver r)
  receiver_of None h = tt
  receiver_of (Some p) h = join (spelled_place p) (a_sign sign.DoubleColon ∷ []) (place p h)
      (signs sign.DoubleColon, tt)

  more_names : (names : List Ident) → Named names → Holds (flat_map (after_comma name_alone) names)
  more_names [] h = tt
  more_names (name ∷ names) h = (signs sign.Comma, (h.0, more_names names h.1))

  names_of : (names : List Ident) → Named names → Holds (spelled_names names)
  names_of [] h = tt
  names_of (name ∷ names) h = (h.0, more_names names h.1)

  more_vars : (vars : List Var) → Named (flat_map var_names vars) → Holds (flat_map (after_comma spelled_var) vars)
  more_vars [] h = tt
  more_vars (v ∷ vars) h =
      let s = split (var_names v) (flat_map var_names vars) h in (
        signs sign.Comma,
        join (spelled_var v) (flat_map (after_comma spelled_var) vars) (variable v s.0)
            (more_vars vars s.1),
      )

  vars_of : (vars : List Var) → Named (flat_map var_names vars) → Holds (spelled_vars vars)
  vars_of [] h = tt
  vars_of (v ∷ vars) h =
      let s = split (var_names v) (flat_map var_names vars) h in
      join (spelled_var v) (flat_map (after_comma spelled_var) vars) (variable v s.0) (more_vars vars s.1)

  fields_of : (vars : List Var) → Named (flat_map var_names vars) → Holds (flat_map spelled_var vars)
  fields_of [] h = tt
  fields_of (v ∷ vars) h =
      let s = split (var_names v) (flat_map var_names vars) h in
      join (spelled_var v) (flat_map spelled_var vars) (variable v s.0) (fields_of vars s.1)

  target_of : (r : Option Lvalue) (method : Ident) (args : List Ident) → Named (receiver_names r ++ method ∷ args)
      → Holds (spelled_target r method args)
  target_of r method args h =
      let s = split (receiver_names r) (method ∷ args) h in
      join (spelled_receiver r) (a_name method ∷ in_parentheses (spelled_names args)) (receiver_of r s.0)
      (s.1.0, parentheses (spelled_names args) (names_of args s.1.1))

  binding : (v : Var) (e : Expression) → Named (var_names v) → Named (expression_names e) → Holds (spelled_binding v e)
  binding v e h k = join (spelled_var v) (a_sign sign.Equal ∷ spelled_expression e) (variable v h)
      (signs sign.Equal, expression e k)

  copied : (k : VarType) (p q : Lvalue) → Named (type_names k ++ lvalue_names p ++ lvalue_names q)
      → Holds (spelled_type k ++ spelled_place p ++ spelled_place q)
  copied k p q h =
      let s = split (type_names k ++ lvalue_names p) (lvalue_names q) h in
      let t = split (type_names k) (lvalue_names p) s.0 in
      join (spelled_type k ++ spelled_place p) (spelled_place q)
      (join (spelled_type k) (spelled_place p) (kind_of k t.0) (place p t.1)) (place q s.1)

  made_at : (m : Creation) (p : Lvalue) → Named (creation_names m ++ lvalue_names p)
      → Holds (spelled_creation m ++ spelled_place p)
  made_at m p h =
      let s = split (creation_names m) (lvalue_names p) h in
      join (spelled_creation m) (spelled_place p) (creation m s.0) (place p s.1)

  -- a word and what follows it, four times
  four : (a b c d : List PrintedToken) (first : PrintedToken) (x y z : Keyword) → P first.kind → Holds a → Holds b
      → Holds c
      → Holds d → Holds (first ∷ a ++ a_word x ∷ b ++ a_word y ∷ c ++ a_word z ∷ d)
  four a b c d first x y z f ha hb hc hd = (
    f,
    join (a ++ a_word x ∷ b ++ a_word y ∷ c) (a_word z ∷ d)
        (join (a ++ a_word x ∷ b) (a_word y ∷ c) (join a (a_word x ∷ b) ha (words x, hb)) (words y, hc))
        (words z, hd),
  )

  mutual
    statement : (s : Statement) → Named (statement_names s) → Holds (spelled_statement s)
    statement (Update at op target value) h =
        let s = split (lvalue_names target) (expression_names value) h in
        join (first_place target) (a_sign (update_sign op) ∷ spelled_expression value) (line_place target s.0)
        (signs (update_sign op), expression value s.1)
    statement (Swap at left right) h =
        let s = split (lvalue_names left) (lvalue_names right) h in
        join (first_place left) (a_sign sign.Swap ∷ spelled_place right) (line_place left s.0)
        (signs sign.Swap, place right s.1)
    statement (If at test taken other after) h =
        let s = split (expression_names test ++ block_names taken ++ block_names other) (expression_names after) h in
        let t = split (expression_names test ++ block_names taken) (block_names other) s.0 in
        let u = split (expression_names test) (block_names taken) t.0 in
        four (spelled_expression test) (spelled_block taken) (spelled_block other) (spelled_expression after)
        (first_word word.If) word.Then word.Else word.Fi (words word.If) (expression test u.0) (block taken u.1)
        (block other t.1) (expression after s.1)
    statement (From at entry first again exit) h =
        let s = split (expression_names entry ++ block_names first ++ block_names again) (expression_names exit) h in
        let t = split (expression_names entry ++ block_names first) (block_names again) s.0 in
        let u = split (expression_names entry) (block_names first) t.0 in
        four (spelled_expression entry) (spelled_block first) (spelled_block again) (spelled_expression exit)
        (first_word word.From) word.Do word.Loop word.Until (words word.From) (expression entry u.0)
        (block first u.1) (block again t.1) (expression exit s.1)
    statement (Construct at class name body end) h =
        let s = split (block_names body) (end ∷ []) h.1.1 in (
          words word.Construct,
          (
            h.0,
            (
              h.1.0,
              join (spelled_block body) (a_word word.Destruct ∷ a_name end ∷ [])
                  (block body s.0) (words word.Destruct, (s.1.0, tt)),
            ),
          ),
        )
    statement (Local at var value body end_var end_value) h =
        let s = split (var_names var ++ expression_names value ++ block_names body ++ var_names end_var)
        (expression_names end_value) h in
        let t = split (var_names var ++ expression_names value ++ block_names body) (var_names end_var) s.0 in
        let u = split (var_names var ++ expression_names value) (block_names body) t.0 in
        let v = split (var_names var) (expression_names value) u.0 in (
          words word.Local,
          join (spelled_binding var value ++ spelled_block body)
              (a_word word.Delocal ∷ spelled_binding end_var end_value)
              (join (spelled_binding var value) (spelled_block body) (binding var value v.0 v.1) (block body u.1))
              (words word.Delocal, binding end_var end_value t.1 s.1),
        )
    statement (New at made target) h = (words word.New, made_at made target h)
    statement (Delete at made target) h = (words word.Delete, made_at made target h)
    statement (Copy at kind source target) h = (words word.Copy, copied kind source target h)
    statement (Uncopy at kind source target) h = (words word.Uncopy, copied kind source target h)
    statement (Call at back receiver method args) h = (words (call_word back), target_of receiver method args h)
    statement (Skip at) h = (words word.Skip, tt)

    block : (b : Statements) → Named (block_names b) → Holds (spelled_block b)
    block End h = tt
    block (Then one more) h =
        let s = split (statement_names one) (block_names more) h in
        join (spelled_statement one) (spelled_block more) (statement one s.0) (block more s.1)

  method_of : (m : Procedure) → Named (procedure_names m) → Holds (spelled_method m)
  method_of m h =
      let s = split (flat_map var_names m.params) (block_names m.body) h.1 in (
        words word.Method,
        (
          h.0,
          join (in_parentheses (spelled_vars m.params)) (spelled_block m.body)
              (parentheses (spelled_vars m.params) (vars_of m.params s.0)) (block m.body s.1),
        ),
      )

  methods_of : (ms : List Procedure) → Named (flat_map procedure_names ms) → Holds (flat_map spelled_method ms)
  methods_of [] h = tt
  methods_of (m ∷ ms) h =
      let s = split (procedure_names m) (flat_map procedure_names ms) h in
      join (spelled_method m) (flat_map spelled_method ms) (method_of m s.0) (methods_of ms s.1)

  parent_of : (p : Option Ident) → Named (parent_names p) → Holds (spelled_parent p)
  parent_of None h = tt
  parent_of (Some p) h = (words word.Inherits, (h.0, tt))

  class_of : (c : ClassText) → Named (class_names c) → Holds (spelled_class c)
  class_of c h =
      let s = split (parent_names c.parent ++ flat_map var_names c.fields) (flat_map procedure_names c.methods) h.1 in
      let t = split (parent_names c.parent) (flat_map var_names c.fields) s.0 in (
        words word.Class,
        (
          h.0,
          join (spelled_parent c.parent ++ flat_map spelled_var c.fields) (flat_map spelled_method c.methods)
              (join (spelled_parent c.parent) (flat_map spelled_var c.fields) (parent_of c.parent t.0)
              (fields_of c.fields t.1))
              (methods_of c.methods s.1),
        ),
      )

  classes_of : (cs : List ClassText) → Named (flat_map class_names cs) → Holds (flat_map spelled_class cs)
  classes_of [] h = tt
  classes_of (c ∷ cs) h =
      let s = split (class_names c) (flat_map class_names cs) h in
      join (spelled_class c) (flat_map spelled_class cs) (class_of c s.0) (classes_of cs s.1)

  pub each_token : (p : Source) → Named (source_names p) → Holds (spelled p)
  each_token p h = classes_of p.classes h

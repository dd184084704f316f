-- Tokens that look like printed statements are statements like them.
use Rattle.std.proofs.Common.{◌≡◌, ℕ, ◌<◌, ◌≤◌, Bool, true, false, List, [], ◌∷◌, ◌++◌, Option, Some, None, refl, ap}
use Rattle.std.proofs.Common.{arith}
use Rattle.roopl_parser.specs.rpp_tree.declared.tree.Ident.{Ident}
use Rattle.roopl_parser.specs.rpp_tree.declared.tree.Var.{Var}
use Rattle.roopl_parser.specs.rpp_tree.declared.tree.UpdateOp.{UpdateOp}
use Rattle.roopl_parser.specs.rpp_tree.declared.tree.UpdateOp.TheVariants as update
use Rattle.roopl_parser.specs.rpp_tree.declared.limits.TheConstants.{MOST_NODES}
use Rattle.roopl_parser.specs.rpp_tree.Tree.{Expression, Lvalue, Statement, Statements, Update, Swap, If, From, Construct, Local}
use Rattle.roopl_parser.specs.rpp_tree.Tree.{New, Delete, Copy, Uncopy, Call, Skip, End, Then, nodes, index_nodes}
use Rattle.roopl_parser.specs.rpp_tree.Bare.{bare_name, bare_var, bare_expression, bare_statement, bare}
use Rattle.roopl_parser.specs.rpp_tree.Limits.{IsSmallStatement, AreSmall, AreInnerSmall}
use Rattle.roopl_parser.specs.rpp_tree.Views.{statements_of}
use Rattle.roopl_parser.specs.roopl_lexer.declared.token.Token.{Token}
use Rattle.roopl_parser.specs.roopl_lexer.declared.token.TokenKind.TheVariants as token
use Rattle.roopl_parser.specs.roopl_lexer.declared.token.Keyword.{Keyword}
use Rattle.roopl_parser.specs.roopl_lexer.declared.token.Keyword.TheVariants as word
use Rattle.roopl_parser.specs.roopl_lexer.declared.token.Symbol.TheVariants as sign
use Rattle.roopl_parser.specs.Operators.{Span, tok, ident, update_operator}
use Rattle.roopl_parser.specs.Grammar as grammar
use Rattle.roopl_parser.specs.Grammar.{IsExpr, IsVar, IsStatement, IsBranches, IsBlock, IsStatements}
use Rattle.roopl_parser.specs.Parens.{parens_of, index_parens, statement_parens, branch_parens, block_parens}
use Rattle.roopl_parser.specs.Parens.{list_parens}
use Rattle.roopl_printer.specs.Printable.{HasStatement, HasFullBlocks, AreFull}
use Rattle.roopl_printer.specs.Printed.{a_name, a_sign, a_word}
use Rattle.roopl_printer.specs.Spelled.{update_sign, call_word, in_parentheses, spelled_expression, spelled_index}
use Rattle.roopl_printer.specs.Spelled.{spelled_place, spelled_type, spelled_var, spelled_creation, spelled_names}
use Rattle.roopl_printer.specs.Spelled.{spelled_binding, spelled_statement, spelled_block}
use Rattle.roopl_parser.specs.rpp_tree.Places.{place_name}
use Rattle.roopl_printer.proofs.Looks.{Looks, none, next, parted}
use Rattle.roopl_printer.proofs.LikeExpressions.{LikeExpr, expression_like, LikeIndexed, indexed_like, place_like}
use Rattle.roopl_printer.proofs.LikeKinds.{type_like, LikeVar, var_like, made_like, names_like}

pub record LikeStatement (s : Statement) (ts rest : List Token) : Type 0 where
  pub tree : Statement
  pub derived : IsStatement ts rest tree
  pub alike : bare_statement tree ≡ bare_statement s
  pub flat : statement_parens derived ≤ MOST_NODES

pub record LikeBlock (b : Statements) (ts rest : List Token) : Type 0 where
  pub tree : Statements
  pub derived : IsBlock ts rest tree
  pub alike : bare tree ≡ bare b
  pub flat : block_parens derived ≤ MOST_NODES

pub record LikeList (b : Statements) (ts rest : List Token) : Type 0 where
  pub trees : List Statement
  pub derived : IsStatements ts rest trees
  pub alike : bare (statements_of trees) ≡ bare b
  pub flat : list_parens derived ≤ MOST_NODES

-- ---- updates and swaps

update_back : (op : UpdateOp) → update_operator (token.Sign (update_sign op)) ≡ Some op
update_back update.Add = refl
update_back update.Sub = refl
update_back update.Xor = refl

updated : (at : ℕ) (op : UpdateOp) (target : Lvalue) (value : Expression) (a : Span) (ts mid rest : List Token)
    → IsSmallStatement (Update at op target value)
    → LikeIndexed (ident a (place_name target).text) target ts mid
    → Looks (a_sign (update_sign op) ∷ spelled_expression value) mid rest
    → LikeStatement (Update at op target value) (tok a (token.Name (place_name target).text) ∷ ts) rest
updated at op target value a ts _ rest small place (next {ts = us} looks) =
    let like = expression_like value us rest looks in
    let same_place = place.alike in
    let same_value = like.alike in
    let few = small.nodes in
    let few_place = place.flat in
    let few_value = like.flat in
    record {
      tree = Update a.at op place.tree like.tree;
      derived = grammar.assign place.derived
          (grammar.update (update_back op) like.derived);
      alike = cc;
      flat = omega arith;
    }

swapped : (at : ℕ) (left right : Lvalue) (a : Span) (ts mid rest : List Token) → IsSmallStatement (Swap at left right)
    → LikeIndexed (ident a (place_name left).text) left ts mid → Looks (a_sign sign.Swap ∷ spelled_place right) mid rest
    → LikeStatement (Swap at left right) (tok a (token.Name (place_name left).text) ∷ ts) rest
swapped at left right a ts _ rest small place (next {ts = us} looks) =
    let like = place_like right us rest looks in
    let same_left = place.alike in
    let same_right = like.alike in
    let few = small.nodes in
    let few_left = place.flat in
    let few_right = like.flat in
    record {
      tree = Swap a.at place.tree like.tree;
      derived = grammar.assign place.derived (grammar.swap like.derived);
      alike = cc;
      flat = omega arith;
    }

-- ---- branches and loops

-- a block that is known to be read
abbrev Reads : Statements → Type 0
Reads b = (ts rest : List Token) → Looks (spelled_block b) ts rest → LikeBlock b ts rest

record LikeBranches (first second third : Keyword) (taken other : Statements) (e : Expression) (ts rest : List Token) :
    Type 0 where
  taken_tree : Statements
  other_tree : Statements
  tree : Expression
  derived : IsBranches first second third ts rest taken_tree other_tree tree
  alike_taken : bare taken_tree ≡ bare taken
  alike_other : bare other_tree ≡ bare other
  alike : bare_expression tree ≡ bare_expression e
  flat : branch_parens derived ≤ MOST_NODES

branches_like : (first second third : Keyword) (taken other : Statements) (e : Expression) → Reads taken → Reads other
    → nodes e ≤ MOST_NODES → (ts us vs rest : List Token)
    → Looks (a_word first ∷ spelled_block taken) ts us → Looks (a_word second ∷ spelled_block other) us vs
    → Looks (a_word third ∷ spelled_expression e) vs rest
    → LikeBranches first second third taken other e ts rest
branches_like first second third taken other e taken_reads other_reads few _ _ _ rest (next looks) (next looks')
    (next looks'') =
    let one = taken_reads _ _ looks in
    let two = other_reads _ _ looks' in
    let last = expression_like e _ _ looks'' in
    let few_one = one.flat in
    let few_two = two.flat in
    let few_last = last.flat in
    record {
      taken_tree = one.tree;
      other_tree = two.tree;
      tree = last.tree;
      derived = grammar.branches one.derived two.derived last.derived;
      alike_taken = one.alike;
      alike_other = two.alike;
      alike = last.alike;
      flat = omega arith;
    }

-- an expression, and then branches
record Parts (first second third : Keyword) (e : Expression) (taken other : Statements) (last : Expression)
    (ts rest : List Token) : Type 0 where
  mid : List Token
  test : LikeExpr 9 e (nodes e) ts mid
  branches : LikeBranches first second third taken other last mid rest

parts_like : (first second third : Keyword) (e : Expression) (taken other : Statements) (last : Expression)
    → Reads taken → Reads other → nodes last ≤ MOST_NODES → (ts rest : List Token)
    → Looks (spelled_expression e ++ a_word first ∷ spelled_block taken ++ a_word second
    ∷ spelled_block other ++ a_word third ∷ spelled_expression last) ts rest
    → Parts first second third e taken other last ts rest
parts_like first second third e taken other last taken_reads other_reads few ts rest looks =
    let p = parted (spelled_expression e ++ a_word first ∷ spelled_block taken ++ a_word second ∷ spelled_block other)
    (a_word third ∷ spelled_expression last) looks in
    let q = parted (spelled_expression e ++ a_word first ∷ spelled_block taken) (a_word second ∷ spelled_block other)
    p.front in
    let r = parted (spelled_expression e) (a_word first ∷ spelled_block taken) q.front in
    record {
      mid = r.mid;
      test = expression_like e ts r.mid r.front;
      branches = branches_like first second third taken other last taken_reads other_reads few r.mid q.mid p.mid rest
          r.back q.back p.back;
    }

-- ---- statements round a block

constructed : (at : ℕ) (class name : Ident) (body : Statements) (last : Ident) (a b c : Span) (ts mid rest : List Token)
    → LikeBlock body ts mid → Looks (a_word word.Destruct ∷ a_name last ∷ []) mid rest
    → LikeStatement (Construct at class name body last) (tok a (token.Word word.Construct)
    ∷ tok b (token.Name class.text) ∷ tok c (token.Name name.text) ∷ ts) rest
constructed at class name body last a b c ts _ rest like (next (next {a = e} none)) = record {
  tree = Construct a.at (ident b class.text) (ident c name.text) like.tree (ident e last.text);
  derived = grammar.construct like.derived;
  alike = ap (λ b. Construct 0 (bare_name class) (bare_name name) b (bare_name last)) like.alike;
  flat = like.flat;
}

-- a variable with its type, and an expression
record LikeBinding (v : Var) (e : Expression) (ts rest : List Token) : Type 0 where
  sign_span : Span
  mid : List Token
  var_tree : Var
  tree : Expression
  var_derived : IsVar ts (tok sign_span (token.Sign sign.Equal) ∷ mid) var_tree
  derived : IsExpr 9 mid rest tree
  alike_var : bare_var var_tree ≡ bare_var v
  alike : bare_expression tree ≡ bare_expression e
  flat : parens_of derived < nodes e

bound : (v : Var) (e : Expression) (ts mid rest : List Token) → LikeVar v ts mid
    → Looks (a_sign sign.Equal ∷ spelled_expression e) mid rest → LikeBinding v e ts rest
bound v e ts _ rest var (next {a = a} {ts = us} looks) =
    let like = expression_like e us rest looks in
    record {
      sign_span = a;
      mid = us;
      var_tree = var.tree;
      tree = like.tree;
      var_derived = var.derived;
      derived = like.derived;
      alike_var = var.alike;
      alike = like.alike;
      flat = like.flat;
    }

binding_like : (v : Var) (e : Expression) (ts rest : List Token) → Looks (spelled_binding v e) ts rest
    → LikeBinding v e ts rest
binding_like v e ts rest looks =
    let p = parted (spelled_var v) (a_sign sign.Equal ∷ spelled_expression e) looks in
    bound v e ts p.mid rest (var_like v ts p.mid p.front) p.back

declared : (at : ℕ) (v : Var) (value : Expression) (body : Statements) (w : Var) (last : Expression) (a : Span)
    (ts us vs rest : List Token)
    → IsSmallStatement (Local at v value body w last) → LikeBinding v value ts us → LikeBlock body us vs
    → Looks (a_word word.Delocal ∷ spelled_binding w last) vs rest
    → LikeStatement (Local at v value body w last) (tok a (token.Word word.Local) ∷ ts) rest
declared at v value body w last a ts us _ rest small one like (next {ts = ws} looks) =
    let two = binding_like w last ws rest looks in
    let few = small.nodes in
    let few_one = one.flat in
    let few_two = two.flat in
    let few_body = like.flat in
    let same_var = one.alike_var in
    let same_value = one.alike in
    let same_body = like.alike in
    let same_end = two.alike_var in
    let same_last = two.alike in
    record {
      tree = Local a.at one.var_tree one.tree like.tree two.var_tree two.tree;
      derived = grammar.declare one.var_derived one.derived (grammar.scope like.derived two.var_derived two.derived);
      alike = cc;
      flat = omega arith;
    }

-- ---- calls

-- the derivation of a call by its word
own_call : (back : Bool) {a b c : Span} {name : List ℕ} {ts rest : List Token} {xs : List Ident}
    → grammar.IsNames ts rest xs
    → (d : IsStatement (tok a (token.Word (call_word back)) ∷ tok b (token.Name name)
    ∷ tok c (token.Sign sign.LeftParen) ∷ ts) rest (Call a.at back None (ident b name) xs))
    × (statement_parens d ≡ 0)
own_call false names = (grammar.call (grammar.own names), refl)
own_call true names = (grammar.uncall (grammar.own names), refl)

called_on : (back : Bool) {a b c d e : Span} {name method : List ℕ} {p : Lvalue} {ts us rest : List Token}
    {xs : List Ident}
    → (i : grammar.IsIndexed (ident b name) ts (tok c (token.Sign sign.DoubleColon) ∷ tok d (token.Name method)
    ∷ tok e (token.Sign sign.LeftParen) ∷ us) p) → grammar.IsNames us rest xs
    → (s : IsStatement (tok a (token.Word (call_word back)) ∷ tok b (token.Name name) ∷ ts) rest
    (Call a.at back (Some p) (ident d method) xs)) × (statement_parens s ≡ index_parens i)
called_on false i names = (grammar.call (grammar.on i names), refl)
called_on true i names = (grammar.uncall (grammar.on i names), refl)

own_called : (at : ℕ) (back : Bool) (method : Ident) (args : List Ident) (ts rest : List Token)
    → Looks (spelled_statement (Call at back None method args)) ts rest
    → LikeStatement (Call at back None method args) ts rest
own_called at back method args _ rest (next {a = a} (next {a = b} (next {ts = ts} looks))) =
    let like = names_like args ts rest looks in
    let d = own_call back like.derived in
    let few = d.1 in
    record {
      tree = Call a.at back None (ident b method.text) like.trees;
      derived = d.0;
      alike = ap (λ l. Call 0 back None (bare_name method) l) like.alike;
      flat = omega arith;
    }

on_called : (at : ℕ) (back : Bool) (p : Lvalue) (method : Ident) (args : List Ident) (a b : Span)
    (ts us vs rest : List Token) → index_nodes p ≤ MOST_NODES
    → LikeIndexed (ident b (place_name p).text) p ts us → Looks (a_sign sign.DoubleColon ∷ []) us vs
    → Looks (a_name method ∷ in_parentheses (spelled_names args)) vs rest
    → LikeStatement (Call at back (Some p) method args) (tok a (token.Word (call_word back))
    ∷ tok b (token.Name (place_name p).text) ∷ ts) rest
on_called at back p method args a b ts _ _ rest few place (next none) (next {a = d} (next {ts = us} looks)) =
    let like = names_like args us rest looks in
    let s = called_on back place.derived like.derived in
    let same = s.1 in
    let few_place = place.flat in
    let same_place = place.alike in
    let same_args = like.alike in
    record {
      tree = Call a.at back (Some place.tree) (ident d method.text) like.trees;
      derived = s.0;
      alike = cc;
      flat = omega arith;
    }

call_like : (at : ℕ) (back : Bool) (r : Option Lvalue) (method : Ident) (args : List Ident)
    → IsSmallStatement (Call at back r method args) → (ts rest : List Token)
    → Looks (spelled_statement (Call at back r method args)) ts rest
    → LikeStatement (Call at back r method args) ts rest
call_like at back None method args small ts rest looks = own_called at back method args ts rest looks
call_like at back (Some p) method args small _ rest (next {a = a} (next {a = b} {ts = ts} looks)) =
    let q = parted (spelled_index p ++ a_sign sign.DoubleColon ∷ [])
    (a_name method ∷ in_parentheses (spelled_names args)) looks in
    let r = parted (spelled_index p) (a_sign sign.DoubleColon ∷ []) q.front in
    on_called at back p method args a b ts r.mid q.mid rest small.nodes
    (indexed_like p (ident b (place_name p).text) refl ts r.mid r.front) r.back q.back

-- ---- each form of statement: tokens that look like it are one like it

mutual
  pub statement_like : (s : Statement) → IsSmallStatement s → AreInnerSmall s → HasFullBlocks s → (ts rest : List Token)
      → Looks (spelled_statement s) ts rest → LikeStatement s ts rest
  statement_like (Update at op target value) small inner full _ rest (next {a = a} {ts = ts} looks) =
      let p = parted (spelled_index target) (a_sign (update_sign op) ∷ spelled_expression value) looks in
      updated at op target value a ts p.mid rest small (indexed_like target (ident a (place_name target).text) refl ts
      p.mid p.front) p.back
  statement_like (Swap at left right) small inner full _ rest (next {a = a} {ts = ts} looks) =
      let p = parted (spelled_index left) (a_sign sign.Swap ∷ spelled_place right) looks in
      swapped at left right a ts p.mid rest small (indexed_like left (ident a (place_name left).text) refl ts p.mid
      p.front) p.back
  statement_like (If at test taken other after) small inner full _ rest (next {a = a} {ts = ts} looks) =
      let few = small.nodes in
      let parts = parts_like word.Then word.Else word.Fi test taken other after (block_like taken inner.0 full.0 full.1)
      (block_like other inner.1 full.2 full.3) (omega arith) ts rest looks in
      let few_test = parts.test.flat in
      let few_branches = parts.branches.flat in
      let same_test = parts.test.alike in
      let same_taken = parts.branches.alike_taken in
      let same_other = parts.branches.alike_other in
      let same_after = parts.branches.alike in
      record {
        tree = If a.at parts.test.tree parts.branches.taken_tree parts.branches.other_tree parts.branches.tree;
        derived = grammar.conditional parts.test.derived parts.branches.derived;
        alike = cc;
        flat = omega arith;
      }
  statement_like (From at entry first again exit) small inner full _ rest (next {a = a} {ts = ts} looks) =
      let few = small.nodes in
      let parts = parts_like word.Do word.Loop word.Until entry first again exit
      (block_like first inner.0 full.0 full.1) (block_like again inner.1 full.2 full.3) (omega arith) ts rest looks
      in
      let few_test = parts.test.flat in
      let few_branches = parts.branches.flat in
      let same_test = parts.test.alike in
      let same_taken = parts.branches.alike_taken in
      let same_other = parts.branches.alike_other in
      let same_after = parts.branches.alike in
      record {
        tree = From a.at parts.test.tree parts.branches.taken_tree parts.branches.other_tree parts.branches.tree;
        derived = grammar.repeat parts.test.derived parts.branches.derived;
        alike = cc;
        flat = omega arith;
      }
  statement_like (Construct at class name body last) small inner full _ rest
      (next {a = a} (next {a = b} (next {a = c} {ts = ts} looks))) =
      let p = parted (spelled_block body) (a_word word.Destruct ∷ a_name last ∷ []) looks in
      constructed at class name body last a b c ts p.mid rest (block_like body inner full.0 full.1 ts p.mid p.front)
      p.back
  statement_like (Local at v value body w last) small inner full _ rest (next {a = a} {ts = ts} looks) =
      let p = parted (spelled_binding v value ++ spelled_block body) (a_word word.Delocal ∷ spelled_binding w last)
      looks in
      let q = parted (spelled_binding v value) (spelled_block body) p.front in
      declared at v value body w last a ts q.mid p.mid rest small (binding_like v value ts q.mid q.front)
      (block_like body inner full.0 full.1 q.mid p.mid q.back) p.back
  statement_like (New at made target) small inner full _ rest (next {a = a} {ts = ts} looks) =
      let p = parted (spelled_creation made) (spelled_place target) looks in
      let m = made_like made ts p.mid p.front in
      let place = place_like target p.mid rest p.back in
      let few = small.nodes in
      let few_made = m.flat in
      let few_place = place.flat in
      let same_made = m.alike in
      let same_place = place.alike in
      record {
        tree = New a.at m.tree place.tree;
        derived = grammar.make m.derived place.derived;
        alike = cc;
        flat = omega arith;
      }
  statement_like (Delete at made target) small inner full _ rest (next {a = a} {ts = ts} looks) =
      let p = parted (spelled_creation made) (spelled_place target) looks in
      let m = made_like made ts p.mid p.front in
      let place = place_like target p.mid rest p.back in
      let few = small.nodes in
      let few_made = m.flat in
      let few_place = place.flat in
      let same_made = m.alike in
      let same_place = place.alike in
      record {
        tree = Delete a.at m.tree place.tree;
        derived = grammar.delete m.derived place.derived;
        alike = cc;
        flat = omega arith;
      }
  statement_like (Copy at kind source target) small inner full _ rest (next {a = a} {ts = ts} looks) =
      let p = parted (spelled_type kind ++ spelled_place source) (spelled_place target) looks in
      let q = parted (spelled_type kind) (spelled_place source) p.front in
      let k = type_like kind ts q.mid q.front in
      let from = place_like source q.mid p.mid q.back in
      let to = place_like target p.mid rest p.back in
      let few = small.nodes in
      let few_from = from.flat in
      let few_to = to.flat in
      let same_kind = k.alike in
      let same_from = from.alike in
      let same_to = to.alike in
      record {
        tree = Copy a.at k.tree from.tree to.tree;
        derived = grammar.copy k.derived from.derived to.derived;
        alike = cc;
        flat = omega arith;
      }
  statement_like (Uncopy at kind source target) small inner full _ rest (next {a = a} {ts = ts} looks) =
      let p = parted (spelled_type kind ++ spelled_place source) (spelled_place target) looks in
      let q = parted (spelled_type kind) (spelled_place source) p.front in
      let k = type_like kind ts q.mid q.front in
      let from = place_like source q.mid p.mid q.back in
      let to = place_like target p.mid rest p.back in
      let few = small.nodes in
      let few_from = from.flat in
      let few_to = to.flat in
      let same_kind = k.alike in
      let same_from = from.alike in
      let same_to = to.alike in
      record {
        tree = Uncopy a.at k.tree from.tree to.tree;
        derived = grammar.uncopy k.derived from.derived to.derived;
        alike = cc;
        flat = omega arith;
      }
  statement_like (Call at back receiver method args) small inner full ts rest looks =
      call_like at back receiver method args small ts rest looks
  statement_like (Skip at) small inner full _ rest (next {a = a} none) =
      record { tree = Skip a.at; derived = grammar.skip; alike = refl; flat = omega arith }

  pub block_like : (b : Statements) → AreSmall b → HasStatement b → AreFull b → (ts rest : List Token)
      → Looks (spelled_block b) ts rest → LikeBlock b ts rest
  block_like End small some full ts rest looks = absurd some
  block_like (Then one more) small some full ts rest looks =
      let p = parted (spelled_statement one) (spelled_block more) looks in
      let s = statement_like one small.0 small.1 full.0 ts p.mid p.front in
      let l = list_like more small.2 full.1 p.mid rest p.back in
      let few_one = s.flat in
      let few_more = l.flat in
      let same_one = s.alike in
      let same_more = l.alike in
      record {
        tree = statements_of (s.tree ∷ l.trees);
        derived = grammar.block s.derived l.derived;
        alike = cc;
        flat = omega arith;
      }

  list_like : (b : Statements) → AreSmall b → AreFull b → (ts rest : List Token) → Looks (spelled_block b) ts rest
      → LikeList b ts rest
  list_like End small full ts _ none = record { trees = []; derived = grammar.end; alike = refl; flat = omega arith }
  list_like (Then one more) small full ts rest looks =
      let p = parted (spelled_statement one) (spelled_block more) looks in
      let s = statement_like one small.0 small.1 full.0 ts p.mid p.front in
      let l = list_like more small.2 full.1 p.mid rest p.back in
      let few_one = s.flat in
      let few_more = l.flat in
      let same_one = s.alike in
      let same_more = l.alike in
      record { trees = s.tree ∷ l.trees; derived = grammar.then s.derived l.derived; alike = cc; flat = omega arith }

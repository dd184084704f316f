-- A syntax tree that is equal up to offsets keeps the same limits.
use Rattle.std.proofs.lemmas.List.{length-map}
use Rattle.std.proofs.Common.{◌≡◌, ◌↔◌, ℕ, ◌+◌, ◌≤◌, max, List, map, length, Option, Some, None, refl, sym, ◌∙◌, ap}
use Rattle.std.proofs.Common.{subst}
use Rattle.std.proofs.Common.{arith}
use Rattle.roopl_parser.specs.rpp_tree.declared.tree.Var.{Var}
use Rattle.roopl_parser.specs.rpp_tree.declared.limits.TheConstants.{MOST_NODES, MOST_INDEX_DEPTH}
use Rattle.roopl_parser.specs.rpp_tree.Tree.{Expression, Number, Null, Variable, Element, Binary, Lvalue, Whole, Item, Creation}
use Rattle.roopl_parser.specs.rpp_tree.Tree.{Object, Ints, Objects, Statement, Statements, Procedure, TreePart, Operand, Target, Typed}
use Rattle.roopl_parser.specs.rpp_tree.Tree.{Creates, Invokes, own_parts, each_part, nodes, index_nodes, creation_nodes}
use Rattle.roopl_parser.specs.rpp_tree.Tree.{receiver_nodes, part_nodes, statement_nodes, nesting, depth}
use Rattle.roopl_parser.specs.rpp_tree.Bare.{bare_var, bare_expression, bare_lvalue, bare_receiver, bare_creation, bare_part}
use Rattle.roopl_parser.specs.rpp_tree.Bare.{bare_statement, bare, bare_procedure}
use Rattle.roopl_parser.specs.rpp_tree.Limits.{index_depth, lvalue_index_depth, creation_index_depth, receiver_index_depth}
use Rattle.roopl_parser.specs.rpp_tree.Limits.{part_index_depth, statement_index_depth, receiver_locals, part_locals, held_locals}
use Rattle.roopl_parser.specs.rpp_tree.Limits.{locals, IsSmallStatement, small, AreSmall, IsSmallMethod}
use Rattle.roopl_parser.proofs.rpp_tree_laws.Walks.{IsBlind, block_bare, own_parts_bare, each_bare}

same_nodes : (e : Expression) → nodes (bare_expression e) ≡ nodes e
same_nodes (Number at n) = refl
same_nodes (Null at) = refl
same_nodes (Variable name) = refl
same_nodes (Element name index) = ap (λ n. 1 + n) (same_nodes index)
same_nodes (Binary at op l r) = let a = same_nodes l in let b = same_nodes r in omega arith

same_index_depth : (e : Expression) → index_depth (bare_expression e) ≡ index_depth e
same_index_depth (Number at n) = refl
same_index_depth (Null at) = refl
same_index_depth (Variable name) = refl
same_index_depth (Element name index) = ap (λ n. 1 + n) (same_index_depth index)
same_index_depth (Binary at op l r) = let a = same_index_depth l in let b = same_index_depth r in cc

same_index_nodes : (p : Lvalue) → index_nodes (bare_lvalue p) ≡ index_nodes p
same_index_nodes (Whole name) = refl
same_index_nodes (Item name index) = same_nodes index

same_place_depth : (p : Lvalue) → lvalue_index_depth (bare_lvalue p) ≡ lvalue_index_depth p
same_place_depth (Whole name) = refl
same_place_depth (Item name index) = ap (λ n. 1 + n) (same_index_depth index)

same_creation_nodes : (m : Creation) → creation_nodes (bare_creation m) ≡ creation_nodes m
same_creation_nodes (Object class) = refl
same_creation_nodes (Ints e) = same_nodes e
same_creation_nodes (Objects class e) = same_nodes e

same_creation_depth : (m : Creation) → creation_index_depth (bare_creation m) ≡ creation_index_depth m
same_creation_depth (Object class) = refl
same_creation_depth (Ints e) = same_index_depth e
same_creation_depth (Objects class e) = same_index_depth e

same_receiver_nodes : (r : Option Lvalue) → receiver_nodes (bare_receiver r) ≡ receiver_nodes r
same_receiver_nodes None = refl
same_receiver_nodes (Some p) = same_index_nodes p

same_receiver_depth : (r : Option Lvalue) → receiver_index_depth (bare_receiver r) ≡ receiver_index_depth r
same_receiver_depth None = refl
same_receiver_depth (Some p) = same_place_depth p

same_receiver_locals : (r : Option Lvalue) → receiver_locals (bare_receiver r) ≡ receiver_locals r
same_receiver_locals None = refl
same_receiver_locals (Some (Whole name)) = refl
same_receiver_locals (Some (Item name index)) = refl

same_part_nodes : (p : TreePart) → part_nodes (bare_part p) ≡ part_nodes p
same_part_nodes (Operand value) = same_nodes value
same_part_nodes (Target place) = same_index_nodes place
same_part_nodes (Typed kind place) = same_index_nodes place
same_part_nodes (Creates made) = same_creation_nodes made
same_part_nodes (Invokes receiver method args) = same_receiver_nodes receiver

same_part_depth : (p : TreePart) → part_index_depth (bare_part p) ≡ part_index_depth p
same_part_depth (Operand value) = same_index_depth value
same_part_depth (Target place) = same_place_depth place
same_part_depth (Typed kind place) = same_place_depth place
same_part_depth (Creates made) = same_creation_depth made
same_part_depth (Invokes receiver method args) = same_receiver_depth receiver

same_part_locals : (p : TreePart) → part_locals (bare_part p) ≡ part_locals p
same_part_locals (Invokes receiver method args) = same_receiver_locals receiver
same_part_locals (Operand value) = refl
same_part_locals _ = refl

same_statement_nodes : (s : Statement) → statement_nodes (bare_statement s) ≡ statement_nodes s
same_statement_nodes s = ap (each_part ◌+◌ part_nodes 0) (own_parts_bare s)
    ∙ each_bare ◌+◌ part_nodes 0 same_part_nodes (own_parts s)

same_statement_depth : (s : Statement) → statement_index_depth (bare_statement s) ≡ statement_index_depth s
same_statement_depth s = ap (each_part max part_index_depth 0) (own_parts_bare s)
    ∙ each_bare max part_index_depth 0 same_part_depth (own_parts s)

blind_nesting : IsBlind (λ (a b : ℕ). a ≡ b) nesting
blind_nesting = record {
  plain = λ at parts. refl;
  forked = λ at before a b c d after h k. omega (arith, h, k);
  construct = λ at class name a c end h. omega (arith, h);
  local = λ at var value a c end_var end_value h. omega (arith, h);
  none = refl;
  next = λ first a b c d h k. omega (arith, h, k);
}

same_depth : (b : Statements) → depth (bare b) ≡ depth b
same_depth b = block_bare blind_nesting b

blind_locals : IsBlind (λ (a b : ℕ). a ≡ b) held_locals
blind_locals = record {
  plain = λ at parts. each_bare max part_locals 0 same_part_locals parts;
  forked = λ at before a b c d after h k. omega (arith, h, k);
  construct = λ at class name a c end h. omega (arith, h);
  local = λ at var value a c end_var end_value h. omega (arith, h);
  none = refl;
  next = λ first a b c d h k. omega (arith, h, k);
}

same_locals : (b : Statements) → locals (bare b) ≡ locals b
same_locals b = block_bare blind_locals b

small_bare : (s : Statement) → IsSmallStatement (bare_statement s) ↔ IsSmallStatement s
small_bare s = (
  λ h. record {
    nodes = subst (λ n. n ≤ MOST_NODES) (same_statement_nodes s) h.nodes;
    indexes = subst (λ n. n ≤ MOST_INDEX_DEPTH) (same_statement_depth s) h.indexes;
  },
  λ h. record {
    nodes = subst (λ n. n ≤ MOST_NODES) (sym (same_statement_nodes s)) h.nodes;
    indexes = subst (λ n. n ≤ MOST_INDEX_DEPTH) (sym (same_statement_depth s)) h.indexes;
  },
)

blind_small : IsBlind (λ (A B : Type 0). A ↔ B) small
blind_small = record {
  plain = λ at parts. (λ h. h, λ h. h);
  forked = λ at before a b c d after h k. (λ x. (h.0 x.0, k.0 x.1), λ x. (h.1 x.0, k.1 x.1));
  construct = λ at class name a c end h. h;
  local = λ at var value a c end_var end_value h. h;
  none = (λ h. h, λ h. h);
  next = λ first a b c d h k. (
    λ x. ((small_bare first).0 x.0, h.0 x.1, k.0 x.2),
    λ x. ((small_bare first).1 x.0, h.1 x.1, k.1 x.2),
  );
}

all_small_bare : (b : Statements) → AreSmall (bare b) ↔ AreSmall b
all_small_bare b = block_bare blind_small b

same_count : (xs ys : List Var) → map bare_var xs ≡ map bare_var ys → length xs ≡ length ys
same_count xs ys same = sym (length-map xs bare_var) ∙ ap length same ∙ length-map ys bare_var

-- a method that is equal up to offsets keeps the limits too
pub small_method : (tree method : Procedure) → bare_procedure tree ≡ bare_procedure method → IsSmallMethod method
    → IsSmallMethod tree
small_method tree method same small =
    let body : bare tree.body ≡ bare method.body = ap (λ (p : Procedure). p.body) same in
    let count = same_count tree.params method.params (ap (λ (p : Procedure). p.params) same) in
    let held = sym (same_locals tree.body) ∙ ap locals body ∙ same_locals method.body in
    let deep = sym (same_depth tree.body) ∙ ap depth body ∙ same_depth method.body in
    let few = small.parameters in
    let few_locals = small.locals_nested in
    let few_levels = small.nesting in
    record {
      parameters = omega arith;
      locals_nested = omega arith;
      nesting = omega arith;
      statements = (all_small_bare tree.body).0
          (subst AreSmall (sym body) ((all_small_bare method.body).1 small.statements));
    }

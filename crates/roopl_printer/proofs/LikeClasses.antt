-- Tokens that look like a printed program are those of a program like it, within the limits.
use Rattle.std.proofs.Common.{◌≡◌, suc, ◌≤◌, List, [], ◌∷◌, ◌++◌, map, length, All, Option, Some, None, refl, ap, arith}
use Rattle.std.specs.List.{flat_map}
use Rattle.std.proofs.lemmas.List.Elements.{All-nil, All-cons, All-head, All-tail}
use Rattle.roopl_parser.specs.rpp_tree.declared.tree.Ident.{Ident}
use Rattle.roopl_parser.specs.rpp_tree.declared.tree.Var.{Var}
use Rattle.roopl_parser.specs.rpp_tree.declared.limits.TheConstants.{MOST_NODES}
use Rattle.roopl_parser.specs.rpp_tree.Tree.{Procedure, ClassText}
use Rattle.roopl_parser.specs.rpp_tree.Bare.{bare_var, bare_procedure, bare_parent, bare_class}
use Rattle.roopl_parser.specs.rpp_tree.Limits.{IsSmallMethod}
use Rattle.roopl_parser.specs.roopl_lexer.declared.token.Token.{Token}
use Rattle.roopl_parser.specs.roopl_lexer.declared.token.Symbol.TheVariants as sign
use Rattle.roopl_parser.specs.Operators.{ident}
use Rattle.roopl_parser.specs.Grammar as grammar
use Rattle.roopl_parser.specs.Grammar.{IsMethod, IsMethods, IsFields, IsParent, IsClass, IsClasses}
use Rattle.roopl_parser.specs.Parens.{method_parens, methods_parens, class_parens, classes_parens}
use Rattle.roopl_printer.specs.Printable.{HasStatement, AreFull}
use Rattle.roopl_printer.specs.Printed.{a_sign}
use Rattle.roopl_printer.specs.Spelled.{spelled_var, spelled_vars, spelled_block, spelled_method, spelled_parent}
use Rattle.roopl_printer.specs.Spelled.{spelled_class}
use Rattle.roopl_printer.proofs.Looks.{Looks, none, next, parted}
use Rattle.roopl_printer.proofs.LikeKinds.{var_like, params_like}
use Rattle.roopl_printer.proofs.LikeStatements.{block_like}
use Rattle.roopl_printer.proofs.SameLimits.{small_method}

-- a method of the grammar
abbrev pub IsFullMethod : Procedure → Type 0
IsFullMethod method = HasStatement method.body × AreFull method.body

record LikeMethod (m : Procedure) (ts rest : List Token) : Type 0 where
  tree : Procedure
  derived : IsMethod ts rest tree
  alike : bare_procedure tree ≡ bare_procedure m
  flat : method_parens derived ≤ MOST_NODES

method_like : (m : Procedure) → IsSmallMethod m → IsFullMethod m → (ts rest : List Token)
    → Looks (spelled_method m) ts rest → LikeMethod m ts rest
method_like m small full _ rest (next (next {a = b} (next {ts = ts} looks))) =
    let p = parted (spelled_vars m.params ++ a_sign sign.RightParen ∷ []) (spelled_block m.body) looks in
    let params = params_like m.params ts p.mid p.front in
    let body = block_like m.body small.statements full.0 full.1 p.mid rest p.back in
    let same_params = params.alike in
    let same_body = body.alike in
    record {
      tree = record { name = ident b m.name.text; params = params.trees; body = body.tree };
      derived = grammar.method params.derived body.derived;
      alike = cc;
      flat = body.flat;
    }

record LikeMethods (ms : List Procedure) (ts rest : List Token) : Type 0 where
  trees : List Procedure
  derived : IsMethods ts rest trees
  alike : map bare_procedure trees ≡ map bare_procedure ms
  flat : methods_parens derived ≤ MOST_NODES
  small : All IsSmallMethod trees

methods_like : (ms : List Procedure) → All IsSmallMethod ms → All IsFullMethod ms → (ts rest : List Token)
    → Looks (flat_map spelled_method ms) ts rest → LikeMethods ms ts rest
methods_like [] small full ts _ none = record {
  trees = [];
  derived = grammar.no_method;
  alike = refl;
  flat = omega arith;
  small = All-nil IsSmallMethod;
}
methods_like (m ∷ ms) small full ts rest looks =
    let p = parted (spelled_method m) (flat_map spelled_method ms) looks in
    let small_one = All-head IsSmallMethod m ms small in
    let one = method_like m small_one (All-head IsFullMethod m ms full) ts p.mid p.front in
    let more = methods_like ms (All-tail IsSmallMethod m ms small) (All-tail IsFullMethod m ms full) p.mid rest p.back
    in
    let few_one = one.flat in
    let few_more = more.flat in
    let same_one = one.alike in
    let same_more = more.alike in
    record {
      trees = one.tree ∷ more.trees;
      derived = grammar.methods one.derived more.derived;
      alike = cc;
      flat = omega arith;
      small = All-cons IsSmallMethod one.tree more.trees (small_method one.tree m one.alike small_one) more.small;
    }

record LikeFields (vars : List Var) (ts rest : List Token) : Type 0 where
  trees : List Var
  derived : IsFields ts rest trees
  alike : map bare_var trees ≡ map bare_var vars

fields_like : (vars : List Var) (ts rest : List Token) → Looks (flat_map spelled_var vars) ts rest
    → LikeFields vars ts rest
fields_like [] ts _ none = record { trees = []; derived = grammar.no_field; alike = refl }
fields_like (v ∷ vars) ts rest looks =
    let p = parted (spelled_var v) (flat_map spelled_var vars) looks in
    let one = var_like v ts p.mid p.front in
    let more = fields_like vars p.mid rest p.back in
    let same_one = one.alike in
    let same_more = more.alike in
    record { trees = one.tree ∷ more.trees; derived = grammar.field one.derived more.derived; alike = cc }

record LikeParent (parent : Option Ident) (ts rest : List Token) : Type 0 where
  tree : Option Ident
  derived : IsParent ts rest tree
  alike : bare_parent tree ≡ bare_parent parent

parent_like : (parent : Option Ident) (ts rest : List Token) → Looks (spelled_parent parent) ts rest
    → LikeParent parent ts rest
parent_like None ts _ none = record { tree = None; derived = grammar.alone; alike = refl }
parent_like (Some name) _ _ (next (next {a = b} none)) =
    record { tree = Some (ident b name.text); derived = grammar.inherits; alike = refl }

record LikeClass (c : ClassText) (ts rest : List Token) : Type 0 where
  tree : ClassText
  derived : IsClass ts rest tree
  alike : bare_class tree ≡ bare_class c
  flat : class_parens derived ≤ MOST_NODES
  small : All IsSmallMethod tree.methods

class_like : (c : ClassText) → All IsSmallMethod c.methods → All IsFullMethod c.methods → (ts rest : List Token)
    → Looks (spelled_class c) ts rest → LikeClass c ts rest
class_like c small full _ rest (next (next {a = b} {ts = ts} looks)) =
    let p = parted (spelled_parent c.parent ++ flat_map spelled_var c.fields) (flat_map spelled_method c.methods) looks
    in
    let q = parted (spelled_parent c.parent) (flat_map spelled_var c.fields) p.front in
    let parent = parent_like c.parent ts q.mid q.front in
    let fields = fields_like c.fields q.mid p.mid q.back in
    let methods = methods_like c.methods small full p.mid rest p.back in
    let same_parent = parent.alike in
    let same_fields = fields.alike in
    let same_methods = methods.alike in
    record {
      tree = record {
        name = ident b c.name.text;
        parent = parent.tree;
        fields = fields.trees;
        methods = methods.trees;
      };
      derived = grammar.class parent.derived fields.derived methods.derived;
      alike = cc;
      flat = methods.flat;
      small = methods.small;
    }

pub record LikeClasses (cs : List ClassText) (ts rest : List Token) : Type 0 where
  pub trees : List ClassText
  pub derived : IsClasses ts rest trees
  pub alike : map bare_class trees ≡ map bare_class cs
  pub flat : classes_parens derived ≤ MOST_NODES
  pub count : length trees ≡ length cs
  pub small : All (λ class. All IsSmallMethod class.methods) trees

abbrev HasSmall : ClassText → Type 0
HasSmall class = All IsSmallMethod class.methods

abbrev HasFull : ClassText → Type 0
HasFull class = All IsFullMethod class.methods

pub classes_like : (cs : List ClassText) → All HasSmall cs → All HasFull cs → (ts rest : List Token)
    → Looks (flat_map spelled_class cs) ts rest → LikeClasses cs ts rest
classes_like [] small full ts _ none = record {
  trees = [];
  derived = grammar.no_class;
  alike = refl;
  flat = omega arith;
  count = refl;
  small = All-nil HasSmall;
}
classes_like (c ∷ cs) small full ts rest looks =
    let p = parted (spelled_class c) (flat_map spelled_class cs) looks in
    let one = class_like c (All-head HasSmall c cs small) (All-head HasFull c cs full) ts p.mid p.front in
    let more = classes_like cs (All-tail HasSmall c cs small) (All-tail HasFull c cs full) p.mid rest p.back in
    let few_one = one.flat in
    let few_more = more.flat in
    let same_one = one.alike in
    let same_more = more.alike in
    record {
      trees = one.tree ∷ more.trees;
      derived = grammar.classes one.derived more.derived;
      alike = cc;
      flat = omega arith;
      count = ap suc more.count;
      small = All-cons HasSmall one.tree more.trees one.small more.small;
    }

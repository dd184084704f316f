-- Tokens that look like printed types, variables, creations and names are those.
use Rattle.std.proofs.Common.{◌≡◌, ◌≤◌, List, [], ◌∷◌, ◌++◌, map, refl, ap, arith}
use Rattle.std.specs.List.{flat_map}
use Rattle.roopl_parser.specs.rpp_tree.declared.tree.Ident.{Ident}
use Rattle.roopl_parser.specs.rpp_tree.declared.tree.Var.{Var}
use Rattle.roopl_parser.specs.rpp_tree.declared.tree.VarType.{VarType}
use Rattle.roopl_parser.specs.rpp_tree.declared.tree.VarType.TheVariants as type
use Rattle.roopl_parser.specs.rpp_tree.Tree.{Expression, Creation, Object, Ints, Objects, nodes, creation_nodes}
use Rattle.roopl_parser.specs.rpp_tree.Bare.{bare_name, bare_type, bare_var, bare_creation}
use Rattle.roopl_parser.specs.roopl_lexer.declared.token.Token.{Token}
use Rattle.roopl_parser.specs.roopl_lexer.declared.token.TokenKind.TheVariants as token
use Rattle.roopl_parser.specs.roopl_lexer.declared.token.Keyword.TheVariants as word
use Rattle.roopl_parser.specs.roopl_lexer.declared.token.Symbol.TheVariants as sign
use Rattle.roopl_parser.specs.Operators.{Span, tok, ident}
use Rattle.roopl_parser.specs.Grammar.{IsType, ints, objects, plain, array, IsVar, var, IsMade, words, named, one}
use Rattle.roopl_parser.specs.Grammar.{sized, IsMoreNames, close, comma, IsNames, none as no_names, some, IsMoreParams}
use Rattle.roopl_parser.specs.Grammar.{last_param, next_param, IsParams, no_param, params}
use Rattle.roopl_parser.specs.Parens.{made_parens}
use Rattle.roopl_printer.specs.Printed.{a_name, a_sign}
use Rattle.roopl_printer.specs.Spelled.{spelled_expression, spelled_type, spelled_var, spelled_creation, after_comma}
use Rattle.roopl_printer.specs.Spelled.{name_alone, spelled_names, spelled_vars}
use Rattle.roopl_printer.proofs.Looks.{Looks, none, next, parted, apart}
use Rattle.roopl_printer.proofs.LikeExpressions.{LikeExpr, expression_like}

-- ---- types and variables

pub record LikeType (k : VarType) (ts rest : List Token) : Type 0 where
  pub tree : VarType
  pub derived : IsType ts rest tree
  pub alike : bare_type tree ≡ bare_type k

pub type_like : (k : VarType) (ts rest : List Token) → Looks (spelled_type k) ts rest → LikeType k ts rest
type_like type.Int _ _ (next none) = record { tree = type.Int; derived = ints plain; alike = refl }
type_like (type.Class class) _ _ (next {a = a} none) =
    record { tree = type.Class (ident a class.text); derived = objects plain; alike = refl }
type_like type.IntArray _ _ (next (next (next none))) =
    record { tree = type.IntArray; derived = ints array; alike = refl }
type_like (type.ClassArray class) _ _ (next {a = a} (next (next none))) =
    record { tree = type.ClassArray (ident a class.text); derived = objects array; alike = refl }

pub record LikeVar (v : Var) (ts rest : List Token) : Type 0 where
  pub tree : Var
  pub derived : IsVar ts rest tree
  pub alike : bare_var tree ≡ bare_var v

named_var : (v : Var) (ts mid rest : List Token) → LikeType v.kind ts mid → Looks (a_name v.name ∷ []) mid rest
    → LikeVar v ts rest
named_var v ts _ rest like (next {a = a} none) = record {
  tree = record { kind = like.tree; name = ident a v.name.text };
  derived = var like.derived;
  alike = ap (λ (k : VarType). record { kind = k; name = bare_name v.name }) like.alike;
}

pub var_like : (v : Var) (ts rest : List Token) → Looks (spelled_var v) ts rest → LikeVar v ts rest
var_like v ts rest looks =
    let p = parted (spelled_type v.kind) (a_name v.name ∷ []) looks in
    named_var v ts p.mid rest (type_like v.kind ts p.mid p.front) p.back

-- ---- what is made

pub record LikeMade (m : Creation) (ts rest : List Token) : Type 0 where
  pub tree : Creation
  pub derived : IsMade ts rest tree
  pub alike : bare_creation tree ≡ bare_creation m
  pub flat : made_parens derived ≤ creation_nodes m

ints_made : (length : Expression) (a b : Span) (ts mid rest : List Token) → LikeExpr 9 length (nodes length) ts mid
    → Looks (a_sign sign.RightBracket ∷ []) mid rest
    → LikeMade (Ints length) (tok a (token.Word word.Int) ∷ tok b (token.Sign sign.LeftBracket) ∷ ts) rest
ints_made length a b ts _ rest like (next none) = record {
  tree = Ints like.tree;
  derived = words like.derived;
  alike = ap (λ e. Ints e) like.alike;
  flat = let few = like.flat in omega arith;
}

objects_made : (class : Ident) (length : Expression) (a b : Span) (ts mid rest : List Token)
    → LikeExpr 9 length (nodes length) ts mid → Looks (a_sign sign.RightBracket ∷ []) mid rest
    → LikeMade (Objects class length) (tok a (token.Name class.text) ∷ tok b (token.Sign sign.LeftBracket) ∷ ts) rest
objects_made class length a b ts _ rest like (next none) = record {
  tree = Objects (ident a class.text) like.tree;
  derived = named (sized like.derived);
  alike = ap (λ e. Objects (bare_name class) e) like.alike;
  flat = let few = like.flat in omega arith;
}

pub made_like : (m : Creation) (ts rest : List Token) → Looks (spelled_creation m) ts rest → LikeMade m ts rest
made_like (Object class) _ _ (next {a = a} none) = record
    { tree = Object (ident a class.text); derived = named one; alike = refl; flat = omega arith }
made_like (Ints length) _ rest (next {a = a} (next {a = b} {ts = ts} looks)) =
    let p = parted (spelled_expression length) (a_sign sign.RightBracket ∷ []) looks in
    ints_made length a b ts p.mid rest (expression_like length ts p.mid p.front) p.back
made_like (Objects class length) _ rest (next {a = a} (next {a = b} {ts = ts} looks)) =
    let p = parted (spelled_expression length) (a_sign sign.RightBracket ∷ []) looks in
    objects_made class length a b ts p.mid rest (expression_like length ts p.mid p.front) p.back

-- ---- names, with the parenthesis after them

record LikeMoreNames (names : List Ident) (ts rest : List Token) : Type 0 where
  trees : List Ident
  derived : IsMoreNames ts rest trees
  alike : map bare_name trees ≡ map bare_name names

more_names_like : (names : List Ident) (ts rest : List Token)
    → Looks (flat_map (after_comma name_alone) names ++ a_sign sign.RightParen ∷ []) ts rest
    → LikeMoreNames names ts rest
more_names_like [] _ _ (next none) = record { trees = []; derived = close; alike = refl }
more_names_like (name ∷ names) _ rest (next (next {a = b} {ts = ts} looks)) =
    let like = more_names_like names ts rest looks in
    record {
      trees = ident b name.text ∷ like.trees;
      derived = comma like.derived;
      alike = ap (λ l. bare_name name ∷ l) like.alike;
    }

pub record LikeNames (names : List Ident) (ts rest : List Token) : Type 0 where
  pub trees : List Ident
  pub derived : IsNames ts rest trees
  pub alike : map bare_name trees ≡ map bare_name names

pub names_like : (names : List Ident) (ts rest : List Token)
    → Looks (spelled_names names ++ a_sign sign.RightParen ∷ []) ts rest → LikeNames names ts rest
names_like [] _ _ (next none) = record { trees = []; derived = no_names; alike = refl }
names_like (name ∷ names) _ rest (next {a = a} {ts = ts} looks) =
    let like = more_names_like names ts rest looks in
    record {
      trees = ident a name.text ∷ like.trees;
      derived = some like.derived;
      alike = ap (λ l. bare_name name ∷ l) like.alike;
    }

-- ---- parameters, with the parenthesis after them

record LikeMoreParams (vars : List Var) (ts rest : List Token) : Type 0 where
  trees : List Var
  derived : IsMoreParams ts rest trees
  alike : map bare_var trees ≡ map bare_var vars

next_param_like : (v : Var) (vars : List Var) (a : Span) (ts mid rest : List Token) → LikeVar v ts mid
    → LikeMoreParams vars mid rest → LikeMoreParams (v ∷ vars) (tok a (token.Sign sign.Comma) ∷ ts) rest
next_param_like v vars a ts mid rest here more =
    let same_here = here.alike in
    let same_more = more.alike in
    record { trees = here.tree ∷ more.trees; derived = next_param here.derived more.derived; alike = cc }

more_params_like : (vars : List Var) (ts rest : List Token)
    → Looks (flat_map (after_comma spelled_var) vars ++ a_sign sign.RightParen ∷ []) ts rest
    → LikeMoreParams vars ts rest
more_params_like [] _ _ (next none) = record { trees = []; derived = last_param; alike = refl }
more_params_like (v ∷ vars) _ rest (next {a = a} {ts = ts} looks) =
    let p = apart (spelled_var v) (flat_map (after_comma spelled_var) vars) (a_sign sign.RightParen ∷ []) looks in
    next_param_like v vars a ts p.mid rest (var_like v ts p.mid p.front) (more_params_like vars p.mid rest p.back)

pub record LikeParams (vars : List Var) (ts rest : List Token) : Type 0 where
  pub trees : List Var
  pub derived : IsParams ts rest trees
  pub alike : map bare_var trees ≡ map bare_var vars

pub params_like : (vars : List Var) (ts rest : List Token)
    → Looks (spelled_vars vars ++ a_sign sign.RightParen ∷ []) ts rest → LikeParams vars ts rest
params_like [] _ _ (next none) = record { trees = []; derived = no_param; alike = refl }
params_like (v ∷ vars) ts rest looks =
    let p = apart (spelled_var v) (flat_map (after_comma spelled_var) vars) (a_sign sign.RightParen ∷ []) looks in
    let here = var_like v ts p.mid p.front in
    let more = more_params_like vars p.mid rest p.back in
    let same_here = here.alike in
    let same_more = more.alike in
    record { trees = here.tree ∷ more.trees; derived = params here.derived more.derived; alike = cc }

-- Tokens that look like a printed expression are an expression like it.
use Rattle.std.proofs.Common.{◌≡◌, ℕ, zero, suc, ◌+◌, ◌<◌, ◌≤◌, List, [], ◌∷◌, Some, refl, ap, subst, arith}
use Rattle.std.proofs.lemmas.List.{append-nil}
use Rattle.roopl_parser.specs.rpp_tree.declared.tree.Ident.{Ident}
use Rattle.roopl_parser.specs.rpp_tree.declared.tree.BinOp.{BinOp}
use Rattle.roopl_parser.specs.rpp_tree.declared.tree.BinOp.TheVariants as op
use Rattle.roopl_parser.specs.rpp_tree.Tree.{Expression, Number, Null, Variable, Element, Binary, Lvalue, Whole, Item, nodes}
use Rattle.roopl_parser.specs.rpp_tree.Tree.{index_nodes}
use Rattle.roopl_parser.specs.rpp_tree.Bare.{bare_name, bare_expression, bare_lvalue}
use Rattle.roopl_parser.specs.roopl_lexer.declared.token.Token.{Token}
use Rattle.roopl_parser.specs.roopl_lexer.declared.token.TokenKind.TheVariants as token
use Rattle.roopl_parser.specs.roopl_lexer.declared.token.Symbol.TheVariants as sign
use Rattle.roopl_parser.specs.Operators.{Span, tok, ident, operator_at}
use Rattle.roopl_parser.specs.Grammar.{IsExpr, number, null, read, parens, weaker, binary, IsIndexed, whole, item}
use Rattle.roopl_parser.specs.Grammar.{IsPlace, place}
use Rattle.roopl_parser.specs.Parens.{parens_of, index_parens, place_parens}
use Rattle.roopl_printer.specs.Printed.{a_sign}
use Rattle.roopl_printer.specs.Spelled.{operator, operand_tokens, opening, closing, in_brackets, spelled_expression}
use Rattle.roopl_printer.specs.Spelled.{spelled_index, spelled_place}
use Rattle.roopl_parser.specs.rpp_tree.Places.{place_name}
use Rattle.roopl_printer.proofs.Looks.{Looks, none, next, parted}

-- an expression of a level like this one, with parentheses fewer than a number deep
pub record LikeExpr (k : ℕ) (e : Expression) (most : ℕ) (ts rest : List Token) : Type 0 where
  pub tree : Expression
  pub derived : IsExpr k ts rest tree
  pub alike : bare_expression tree ≡ bare_expression e
  pub flat : parens_of derived < most

-- ---- weaker levels

abbrev ups : ℕ → ℕ → ℕ
ups zero k = k
ups (suc j) k = suc (ups j k)

up : (j : ℕ) {k : ℕ} {ts rest : List Token} {e : Expression} → IsExpr k ts rest e → IsExpr (ups j k) ts rest e
up zero d = d
up (suc j) d = weaker (up j d)

up_parens : (j : ℕ) {k : ℕ} {ts rest : List Token} {e : Expression} (d : IsExpr k ts rest e)
    → parens_of (up j d) ≡ parens_of d
unfolding up
up_parens zero d = refl
up_parens (suc j) d = up_parens j d

rise : (k : ℕ) {ts rest : List Token} {e : Expression} → IsExpr 0 ts rest e → IsExpr k ts rest e
rise zero d = d
rise (suc k) d = weaker (rise k d)

rise_parens : (k : ℕ) {ts rest : List Token} {e : Expression} (d : IsExpr 0 ts rest e)
    → parens_of (rise k d) ≡ parens_of d
unfolding rise
rise_parens zero d = refl
rise_parens (suc k) d = rise_parens k d

-- an operand, as an expression of the weakest level
pub weakest : {e : Expression} {most : ℕ} {ts rest : List Token} → LikeExpr 0 e most ts rest → LikeExpr 9 e most ts rest
weakest like = record {
  tree = like.tree;
  derived = rise 9 like.derived;
  alike = like.alike;
  flat = let same = rise_parens 9 like.derived in let few = like.flat in omega arith;
}

-- ---- two operands and an operator

record Joined (op : BinOp) (a : Span) (ts rest : List Token) (l r : Expression) (most : ℕ) : Type 0 where
  derived : IsExpr 9 ts rest (Binary a.at op l r)
  flat : parens_of derived < most

module _ (a : Span) (ts mid rest : List Token) (l r : Expression) (most : ℕ) where
  -- at the level above k, j levels below the weakest
  level : (k j : ℕ) (op : BinOp) → operator_at (suc k) (token.Sign (operator op)) ≡ Some op
      → (dl : IsExpr 0 ts (tok a (token.Sign (operator op)) ∷ mid) l) → (dr : IsExpr 0 mid rest r) → parens_of dl < most
      → parens_of dr < most
      → (d : IsExpr (ups j (suc k)) ts rest (Binary a.at op l r)) × (parens_of d < most)
  level k j op here dl dr few_left few_right =
      let d = binary (rise (suc k) dl) here (rise k dr) in
      let same_left = rise_parens (suc k) dl in
      let same_right = rise_parens k dr in
      let same = up_parens j d in
      (up j d, omega arith)

  joined : (op : BinOp) → (dl : IsExpr 0 ts (tok a (token.Sign (operator op)) ∷ mid) l) → (dr : IsExpr 0 mid rest r)
      → parens_of dl < most → parens_of dr < most → Joined op a ts rest l r most
  joined op.Mul dl dr f g = let d = level 0 8 op.Mul refl dl dr f g in record { derived = d.0; flat = d.1 }
  joined op.Div dl dr f g = let d = level 0 8 op.Div refl dl dr f g in record { derived = d.0; flat = d.1 }
  joined op.Rem dl dr f g = let d = level 0 8 op.Rem refl dl dr f g in record { derived = d.0; flat = d.1 }
  joined op.Add dl dr f g = let d = level 1 7 op.Add refl dl dr f g in record { derived = d.0; flat = d.1 }
  joined op.Sub dl dr f g = let d = level 1 7 op.Sub refl dl dr f g in record { derived = d.0; flat = d.1 }
  joined op.Less dl dr f g = let d = level 2 6 op.Less refl dl dr f g in record { derived = d.0; flat = d.1 }
  joined op.Greater dl dr f g = let d = level 2 6 op.Greater refl dl dr f g in record { derived = d.0; flat = d.1 }
  joined op.AtMost dl dr f g = let d = level 2 6 op.AtMost refl dl dr f g in record { derived = d.0; flat = d.1 }
  joined op.AtLeast dl dr f g = let d = level 2 6 op.AtLeast refl dl dr f g in record { derived = d.0; flat = d.1 }
  joined op.Equal dl dr f g = let d = level 3 5 op.Equal refl dl dr f g in record { derived = d.0; flat = d.1 }
  joined op.NotEqual dl dr f g = let d = level 3 5 op.NotEqual refl dl dr f g in record { derived = d.0; flat = d.1 }
  joined op.And dl dr f g = let d = level 4 4 op.And refl dl dr f g in record { derived = d.0; flat = d.1 }
  joined op.Xor dl dr f g = let d = level 5 3 op.Xor refl dl dr f g in record { derived = d.0; flat = d.1 }
  joined op.Or dl dr f g = let d = level 6 2 op.Or refl dl dr f g in record { derived = d.0; flat = d.1 }
  joined op.AndAlso dl dr f g = let d = level 7 1 op.AndAlso refl dl dr f g in record { derived = d.0; flat = d.1 }
  joined op.OrElse dl dr f g = let d = level 8 0 op.OrElse refl dl dr f g in record { derived = d.0; flat = d.1 }

-- ---- each form of expression: tokens that look like it are one like it

abbrev Whole' : Expression → Type 0
Whole' e = (ts rest : List Token) → Looks (spelled_expression e) ts rest → LikeExpr 9 e (nodes e) ts rest

-- an operand, with its parentheses
abbrev Operand : Expression → Type 0
Operand e = (ts rest : List Token) → Looks (operand_tokens e (spelled_expression e)) ts rest
    → LikeExpr 0 e (1 + nodes e) ts rest

-- an operand that has no parentheses
abbrev Plain : Expression → Type 0
Plain e = (ts rest : List Token) → Looks (spelled_expression e) ts rest → LikeExpr 0 e (nodes e) ts rest

number_like : (at n : ℕ) → Plain (Number at n)
number_like at n _ _ (next {a = a} none) = record {
  tree = Number a.at n;
  derived = number;
  alike = refl;
  flat = omega arith;
}

null_like : (at : ℕ) → Plain (Null at)
null_like at _ _ (next {a = a} none) = record { tree = Null a.at; derived = null; alike = refl; flat = omega arith }

variable_like : (name : Ident) → Plain (Variable name)
variable_like name _ _ (next {a = a} none) = record {
  tree = Variable (ident a name.text);
  derived = read whole;
  alike = refl;
  flat = omega arith;
}

-- an index in its brackets
record LikeIndex (found : Ident) (index : Expression) (most : ℕ) (ts rest : List Token) : Type 0 where
  tree : Expression
  derived : IsIndexed found ts rest (Item found tree)
  alike : bare_expression tree ≡ bare_expression index
  flat : index_parens derived < most

closed : (found : Ident) (index : Expression) (most : ℕ) (a : Span) (ts mid rest : List Token)
    → LikeExpr 9 index most ts mid → Looks (a_sign sign.RightBracket ∷ []) mid rest
    → LikeIndex found index most (tok a (token.Sign sign.LeftBracket) ∷ ts) rest
closed found index most a ts _ rest like (next none) =
    record { tree = like.tree; derived = item like.derived; alike = like.alike; flat = like.flat }

index_like : (found : Ident) (index : Expression) → Whole' index → (ts rest : List Token)
    → Looks (in_brackets (spelled_expression index)) ts rest → LikeIndex found index (nodes index) ts rest
index_like found index inner _ rest (next {a = a} {ts = ts} looks) =
    let p = parted (spelled_expression index) (a_sign sign.RightBracket ∷ []) looks in
    closed found index (nodes index) a ts p.mid rest (inner ts p.mid p.front) p.back

element_like : (name : Ident) (index : Expression) → Whole' index → Plain (Element name index)
element_like name index inner _ rest (next {a = a} {ts = ts} looks) =
    let like = index_like (ident a name.text) index inner ts rest looks in
    let few = like.flat in
    record {
      tree = Element (ident a name.text) like.tree;
      derived = read like.derived;
      alike = ap (λ i. Element (bare_name name) i) like.alike;
      flat = omega arith;
    }

-- the operator and what follows it
operator_like : (at : ℕ) (op : BinOp) (l r : Expression) → Operand r → (ts mid rest : List Token)
    → LikeExpr 0 l (1 + nodes l) ts mid → Looks (a_sign (operator op) ∷ operand_tokens r (spelled_expression r)) mid
    rest
    → LikeExpr 9 (Binary at op l r) (nodes (Binary at op l r)) ts rest
operator_like at op l r right ts _ rest left (next {a = a} {ts = mid} looks) =
    let other = right mid rest looks in
    let few_left = left.flat in
    let few_right = other.flat in
    let d = joined a ts mid rest left.tree other.tree (1 + nodes l + nodes r) op left.derived other.derived
    (omega arith) (omega arith) in
    let same_left = left.alike in
    let same_right = other.alike in
    record { tree = Binary a.at op left.tree other.tree; derived = d.derived; alike = cc; flat = d.flat }

binary_like : (at : ℕ) (op : BinOp) (l r : Expression) → Operand l → Operand r → Whole' (Binary at op l r)
binary_like at op l r left right ts rest looks =
    let p = parted (operand_tokens l (spelled_expression l))
    (a_sign (operator op) ∷ operand_tokens r (spelled_expression r)) looks in
    operator_like at op l r right ts p.mid rest (left ts p.mid p.front) p.back

-- what has no parentheses looks the same as an operand
plain_operand : (e : Expression) → opening e ≡ [] → closing e ≡ [] → Plain e → Operand e
plain_operand e no_opening no_closing plain ts rest looks =
    let same : operand_tokens e (spelled_expression e) ≡ spelled_expression e =
    rw (no_opening, no_closing) (append-nil (spelled_expression e)) in
    let like = plain ts rest (subst (λ l. Looks l ts rest) same looks) in
    record { tree = like.tree; derived = like.derived; alike = like.alike; flat = let few = like.flat in omega arith }

in_parens : (e : Expression) (a : Span) (ts mid rest : List Token) → LikeExpr 9 e (nodes e) ts mid
    → Looks (a_sign sign.RightParen ∷ []) mid rest → LikeExpr 0 e (1 + nodes e) (tok a (token.Sign sign.LeftParen) ∷ ts)
    rest
in_parens e a ts _ rest like (next none) = record {
  tree = like.tree;
  derived = parens like.derived;
  alike = like.alike;
  flat = let few = like.flat in omega arith;
}

binary_operand : (at : ℕ) (op : BinOp) (l r : Expression) → Whole' (Binary at op l r) → Operand (Binary at op l r)
binary_operand at op l r whole_like _ rest (next {a = a} {ts = ts} looks) =
    let p = parted (spelled_expression (Binary at op l r)) (a_sign sign.RightParen ∷ []) looks in
    in_parens (Binary at op l r) a ts p.mid rest (whole_like ts p.mid p.front) p.back

both_like : (e : Expression) → Operand e × Whole' e
both_like (Number at n) = (
  plain_operand (Number at n) refl refl (number_like at n),
  λ ts rest looks. weakest (number_like at n ts rest looks),
)
both_like (Null at) = (
  plain_operand (Null at) refl refl (null_like at),
  λ ts rest looks. weakest (null_like at ts rest looks),
)
both_like (Variable name) = (
  plain_operand (Variable name) refl refl (variable_like name),
  λ ts rest looks. weakest (variable_like name ts rest looks),
)
both_like (Element name index) =
    let plain = element_like name index (both_like index).1 in
    (plain_operand (Element name index) refl refl plain, λ ts rest looks. weakest (plain ts rest looks))
both_like (Binary at op l r) =
    let whole_like = binary_like at op l r (both_like l).0 (both_like r).0 in
    (binary_operand at op l r whole_like, whole_like)

-- tokens that look like an expression are one like it
pub expression_like : (e : Expression) (ts rest : List Token) → Looks (spelled_expression e) ts rest
    → LikeExpr 9 e (nodes e) ts rest
expression_like e = (both_like e).1

-- ---- places

-- what follows the name of a place
pub record LikeIndexed (found : Ident) (p : Lvalue) (ts rest : List Token) : Type 0 where
  pub tree : Lvalue
  pub derived : IsIndexed found ts rest tree
  pub alike : bare_lvalue tree ≡ bare_lvalue p
  pub flat : index_parens derived ≤ index_nodes p

pub indexed_like : (p : Lvalue) (found : Ident) → bare_name found ≡ bare_name (place_name p) → (ts rest : List Token)
    → Looks (spelled_index p) ts rest → LikeIndexed found p ts rest
indexed_like (Whole name) found same ts _ none = record
    { tree = Whole found; derived = whole; alike = ap (λ n. Whole n) same; flat = omega arith }
indexed_like (Item name index) found same ts rest looks =
    let like = index_like found index (expression_like index) ts rest looks in
    let few = like.flat in
    let inner = like.alike in
    record { tree = Item found like.tree; derived = like.derived; alike = cc; flat = omega arith }

pub record LikePlace (p : Lvalue) (ts rest : List Token) : Type 0 where
  pub tree : Lvalue
  pub derived : IsPlace ts rest tree
  pub alike : bare_lvalue tree ≡ bare_lvalue p
  pub flat : place_parens derived ≤ index_nodes p

pub place_like : (p : Lvalue) (ts rest : List Token) → Looks (spelled_place p) ts rest → LikePlace p ts rest
place_like p _ rest (next {a = a} {ts = ts} looks) =
    let like = indexed_like p (ident a (place_name p).text) refl ts rest looks in
    record { tree = like.tree; derived = place like.derived; alike = like.alike; flat = like.flat }

-- The parts of a syntax tree are those of its tokens.
use Rattle.std.proofs.Common.{◌≡◌, ℕ, suc, ◌+◌, ◌<◌, ◌≤◌, List, [], ◌∷◌, ◌++◌, length, flat_map, refl, sym, ◌∙◌, ap}
use Rattle.std.proofs.Common.{subst, arith, append_assoc, append-nil, Option, Some, None, Bool, true, false, cond}
use Rattle.std.proofs.Common.{nat_lt, drop, ltb-false}
use Rattle.std.specs.Prelude.{sum_by}
use Rattle.std.specs.List.{AllByRecursion, All}
use Rattle.std.proofs.lemmas.List.Elements.{All-from_recursion, recursion_from_All}
use Rattle.std.proofs.lemmas.List.Sums.{sum_by-cons}
use Rattle.roopl_lexer.specs.rpp_tree.declared.limits.TheConstants.{MOST_BYTES, MOST_TOKENS}
use Rattle.roopl_lexer.specs.rpp_tree.declared.tree.Ident.{Ident}
use Rattle.roopl_lexer.specs.rpp_tree.declared.tree.Var.{Var}
use Rattle.roopl_lexer.specs.rpp_tree.declared.tree.VarType.{VarType}
use Rattle.roopl_lexer.specs.rpp_tree.declared.tree.VarType.TheVariants as kind
use Rattle.roopl_lexer.specs.rpp_tree.declared.tree.BinOp.{BinOp}
use Rattle.roopl_lexer.specs.rpp_tree.declared.tree.UpdateOp.{UpdateOp}
use Rattle.roopl_lexer.specs.rpp_tree.Tree.{Expression, Lvalue, Whole, Item, Creation, Statement, Statements, Procedure, ClassText}
use Rattle.roopl_lexer.specs.rpp_tree.Tree.{Source}
use Rattle.roopl_lexer.specs.rpp_tree.Views.{statements_of}
use Rattle.roopl_lexer.specs.rpp_tree.Names.{IsName}
use Rattle.roopl_lexer.specs.rpp_tree.Limits.{IsWithinLimits}
use Rattle.roopl_lexer.specs.rpp_tree.Parts.{expression_names, lvalue_names, creation_names, type_names, var_names, statement_names}
use Rattle.roopl_lexer.specs.rpp_tree.Parts.{block_names, procedure_names, parent_names, class_names, source_names, name_places}
use Rattle.roopl_lexer.specs.rpp_tree.Parts.{expression_places, lvalue_places, creation_places, var_places, statement_places}
use Rattle.roopl_lexer.specs.rpp_tree.Parts.{block_places, procedure_places, class_places, source_places, expression_tokens}
use Rattle.roopl_lexer.specs.rpp_tree.Parts.{lvalue_tokens, creation_tokens, type_tokens, var_tokens, list_tokens, statement_tokens}
use Rattle.roopl_lexer.specs.rpp_tree.Parts.{block_tokens, procedure_tokens, parent_tokens, class_tokens, source_tokens}
use Rattle.roopl_lexer.specs.declared.token.Token.{Token}
use Rattle.roopl_lexer.specs.declared.token.TokenKind.{TokenKind}
use Rattle.roopl_lexer.specs.declared.token.TokenKind.TheVariants.{Word, Name, Number, Sign}
use Rattle.roopl_lexer.specs.declared.token.Keyword.{Keyword}
use Rattle.roopl_lexer.specs.Readable.{IsNameToken, name_length}
use Rattle.roopl_lexer.specs.Tokens.{is_too_large, comment_length, IsCutting, Cut, finish, white, comment, token}
use Rattle.roopl_lexer.specs.Tokens.{bad_byte, too_large}
use Rattle.roopl_lexer.specs.rpp_tree.Refusal.{Refusal}
use Rattle.roopl_lexer.specs.rpp_tree.declared.limits.TheConstants.{MOST_NUMBER}
use Rattle.roopl_parser.specs.Operators.{Span, tok, ident, operator_at, update_operator}
use Rattle.roopl_parser.specs.Grammar as grammar
use Rattle.roopl_parser.specs.Grammar.{lvalue_read, IsExpr, IsIndexed, IsPlace, IsType, IsVar, IsSized, IsMade}
use Rattle.roopl_parser.specs.Grammar.{IsMoreNames, IsNames, IsTarget, IsAssigned, IsStatement, IsBranches, IsScope}
use Rattle.roopl_parser.specs.Grammar.{IsBlock, IsStatements, IsMoreParams, IsParams, IsMethod, IsMethods, IsFields}
use Rattle.roopl_parser.specs.Grammar.{IsParent, IsClass, IsClasses, Derives}
use Rattle.roopl_lexer.specs.rpp_tree.declared.limits.LimitKind.TheVariants as limit
use Rattle.roopl_parser.specs.declared.error.ParseError.{ParseError}
use Rattle.roopl_parser.specs.declared.error.ParseError.TheVariants.{Limit}
use Rattle.roopl_parser.specs.Reader.{Classes, Program}
use Rattle.roopl_parser.specs.Viable.{IsSmall, first_limit, or_else, passes, offset_at}
use Rattle.roopl_parser.specs.Readable.{AreSmallTokens, IsReadable}
use Rattle.roopl_lexer.specs.rpp_tree.Numbers.{expression_numbers, lvalue_numbers, creation_numbers, statement_numbers}
use Rattle.roopl_lexer.specs.rpp_tree.Numbers.{block_numbers, procedure_numbers, class_numbers, source_numbers}

-- ---- the parts of tokens

-- the name that a token is
abbrev named_at : ℕ → TokenKind → List Ident
named_at at (Word keyword) = []
named_at at (Name text) = record { at = at; text = text } ∷ []
named_at at (Number n) = []
named_at at (Sign sign) = []

abbrev named : Token → List Ident
named t = named_at t.at t.kind

-- the number that a token is
abbrev numbered_by : TokenKind → List ℕ
numbered_by (Word keyword) = []
numbered_by (Name text) = []
numbered_by (Number n) = n ∷ []
numbered_by (Sign sign) = []

abbrev numbered : Token → List ℕ
numbered t = numbered_by t.kind

abbrev pub token_names : List Token → List Ident
token_names [] = []
token_names (t ∷ ts) = named t ++ token_names ts

abbrev pub token_numbers : List Token → List ℕ
token_numbers [] = []
token_numbers (t ∷ ts) = numbered t ++ token_numbers ts

abbrev pub token_places : List Token → List ℕ
token_places [] = []
token_places (t ∷ ts) = t.at ∷ token_places ts

-- these names and numbers, places of this kind and as many printed tokens are those of the tokens
-- before the rest
pub record Parts (P : ℕ → Type 0) (ts rest : List Token) (ns : List Ident) (ps ws : List ℕ) (n : ℕ) : Type 0 where
  pub names : token_names ts ≡ ns ++ token_names rest
  pub places : AllByRecursion P (token_places ts) → AllByRecursion P ps × AllByRecursion P (token_places rest)
  pub numbers : token_numbers ts ≡ ws ++ token_numbers rest
  pub tokens : n + length rest ≤ length ts

joined : (P : ℕ → Type 0) (xs ys : List ℕ) → AllByRecursion P xs → AllByRecursion P ys → AllByRecursion P (xs ++ ys)
joined P [] ys h k = k
joined P (x ∷ xs) ys h k = (h.0, joined P xs ys h.1 k)

-- a token that is neither a name nor a number
record IsBare (t : Token) : Type 0 where
  no_name : named t ≡ []
  no_number : numbered t ≡ []

operator_bare : (a : Span) (level : ℕ) (kind : TokenKind) (op : BinOp) → operator_at level kind ≡ Some op
    → IsBare (tok a kind)
operator_bare a level (Word keyword) op is = record { no_name = refl; no_number = refl }
operator_bare a level (Name text) op is = cc
operator_bare a level (Number n) op is = cc
operator_bare a level (Sign sign) op is = record { no_name = refl; no_number = refl }

update_bare : (a : Span) (kind : TokenKind) (op : UpdateOp) → update_operator kind ≡ Some op → IsBare (tok a kind)
update_bare a (Word keyword) op is = record { no_name = refl; no_number = refl }
update_bare a (Name text) op is = cc
update_bare a (Number n) op is = cc
update_bare a (Sign sign) op is = record { no_name = refl; no_number = refl }

-- a type and a name, and then their places
var_places_end : (k : VarType) (name : Ident) → name_places (type_names k) ++ name.at ∷ []
    ≡ name_places (type_names k ++ name ∷ [])
var_places_end kind.Int name = refl
var_places_end (kind.Class class) name = refl
var_places_end kind.IntArray name = refl
var_places_end (kind.ClassArray class) name = refl

-- the parts of a list, each with a comma before it
abbrev more_tokens : {A : Type 0} → (A → ℕ) → List A → ℕ
more_tokens size [] = 0
more_tokens size (x ∷ xs) = 1 + size x + more_tokens size xs

list_tokens_first : {A : Type 0} (size : A → ℕ) (x : A) (xs : List A)
    → list_tokens size (x ∷ xs) ≡ size x + more_tokens size xs
list_tokens_first size x [] = omega arith
list_tokens_first size x (y ∷ ys) = let next = list_tokens_first size y ys in omega (arith, next)

module _ (P : ℕ → Type 0) where
  -- nothing is read
  here : {rest : List Token} → Parts P rest rest [] [] [] 0
  here {rest = rest} = record { names = refl; places = λ h. (tt, h); numbers = refl; tokens = omega arith }

  -- one part and then another
  seq : {ts mid rest : List Token} {ns ms : List Ident} {ps qs ws us : List ℕ} {n m : ℕ} → Parts P ts mid ns ps ws n
      → Parts P mid rest ms qs us m → Parts P ts rest (ns ++ ms) (ps ++ qs) (ws ++ us) (n + m)
  seq {ts = ts} {mid = mid} {rest = rest} {ns = ns} {ms = ms} {ps = ps} {qs = qs} {ws = ws} {us = us} a b = record {
    names = a.names ∙ ap (λ xs. ns ++ xs) b.names ∙ sym (append_assoc ns ms (token_names rest));
    places = λ h. (joined P ps qs (a.places h).0 (b.places (a.places h).1).0, (b.places (a.places h).1).1);
    numbers = a.numbers ∙ ap (λ xs. ws ++ xs) b.numbers ∙ sym (append_assoc ws us (token_numbers rest));
    tokens = omega arith;
  }

  -- one part and then another without numbers
  with : {ts mid rest : List Token} {ns ms : List Ident} {ps qs ws : List ℕ} {n m : ℕ} → Parts P ts mid ns ps ws n
      → Parts P mid rest ms qs [] m → Parts P ts rest (ns ++ ms) (ps ++ qs) ws (n + m)
  with {ts = ts} {mid = mid} {rest = rest} {ns = ns} {ms = ms} {ps = ps} {qs = qs} {ws = ws} {n = n} {m = m} a b =
      subst (λ us. Parts P ts rest (ns ++ ms) (ps ++ qs) us (n + m)) (append-nil ws) (seq a b)

  -- a token whose place is in the syntax tree
  mark : {t : Token} {ts rest : List Token} {ns : List Ident} {ps ws : List ℕ} {n : ℕ} → Parts P ts rest ns ps ws n
      → Parts P (t ∷ ts) rest (named t ++ ns) (t.at ∷ ps) (numbered t ++ ws) (1 + n)
  mark {t = t} {rest = rest} {ns = ns} {ws = ws} a = record {
    names = ap (λ xs. named t ++ xs) a.names ∙ sym (append_assoc (named t) ns (token_names rest));
    places = λ h. ((h.0, (a.places h.1).0), (a.places h.1).1);
    numbers = ap (λ xs. numbered t ++ xs) a.numbers ∙ sym (append_assoc (numbered t) ws (token_numbers rest));
    tokens = omega (arith, a.tokens);
  }

  -- a token whose place is not
  pass : {t : Token} {ts rest : List Token} {ns : List Ident} {ps ws : List ℕ} {n : ℕ} → Parts P ts rest ns ps ws n
      → Parts P (t ∷ ts) rest (named t ++ ns) ps (numbered t ++ ws) (1 + n)
  pass {t = t} {rest = rest} {ns = ns} {ws = ws} a = record {
    names = ap (λ xs. named t ++ xs) a.names ∙ sym (append_assoc (named t) ns (token_names rest));
    places = λ h. a.places h.1;
    numbers = ap (λ xs. numbered t ++ xs) a.numbers ∙ sym (append_assoc (numbered t) ws (token_numbers rest));
    tokens = omega (arith, a.tokens);
  }

  -- a last token that is neither a name nor a number
  last : {t : Token} {ts rest : List Token} {ns : List Ident} {ps ws : List ℕ} {n : ℕ} → named t ≡ [] → numbered t ≡ []
      → Parts P ts (t ∷ rest) ns ps ws n → Parts P ts rest ns ps ws (1 + n)
  last {t = t} {rest = rest} {ns = ns} {ws = ws} no_name no_number a = record {
    names = a.names ∙ ap (λ (xs : List Ident). ns ++ (xs ++ token_names rest)) no_name;
    places = λ h. ((a.places h).0, (a.places h).1.1);
    numbers = a.numbers ∙ ap (λ (xs : List ℕ). ws ++ (xs ++ token_numbers rest)) no_number;
    tokens = omega (arith, a.tokens);
  }

  -- the first token's place once more
  again : {t : Token} {ts rest : List Token} {ns : List Ident} {ps ws : List ℕ} {n : ℕ}
      → Parts P (t ∷ ts) rest ns ps ws n → Parts P (t ∷ ts) rest ns (t.at ∷ ps) ws n
  again a = record {
    names = a.names;
    places = λ h. ((h.0, (a.places h).0), (a.places h).1);
    numbers = a.numbers;
    tokens = a.tokens;
  }

  bare : {t : Token} {ts rest : List Token} {ns : List Ident} {ps ws : List ℕ} {n : ℕ} → IsBare t
      → Parts P (t ∷ ts) rest (named t ++ ns) ps (numbered t ++ ws) n → Parts P (t ∷ ts) rest ns ps ws n
  bare {t = t} {ts = ts} {rest = rest} {ns = ns} {ps = ps} {ws = ws} {n = n} is a =
      let unnamed = subst (λ (xs : List Ident). Parts P (t ∷ ts) rest (xs ++ ns) ps (numbered t ++ ws) n) is.no_name a
      in
      subst (λ (us : List ℕ). Parts P (t ∷ ts) rest ns ps (us ++ ws) n) is.no_number unnamed

  fewer : {ts rest : List Token} {ns : List Ident} {ps ws : List ℕ} {n m : ℕ} → Parts P ts rest ns ps ws n → m ≤ n
      → Parts P ts rest ns ps ws m
  fewer a less = record { names = a.names; places = a.places; numbers = a.numbers; tokens = omega (arith, a.tokens) }

  read_parts : {ts rest : List Token} (p : Lvalue) → Parts P ts rest (lvalue_names p) (lvalue_places p)
      (lvalue_numbers p) (lvalue_tokens p) → Parts P ts rest (expression_names (lvalue_read p))
      (expression_places (lvalue_read p)) (expression_numbers (lvalue_read p)) (expression_tokens (lvalue_read p))
  read_parts (Whole name) a = a
  read_parts (Item name index) a = a

  -- ---- expressions

  mutual
    expression : {k : ℕ} {ts rest : List Token} {e : Expression} → IsExpr k ts rest e
        → Parts P ts rest (expression_names e) (expression_places e) (expression_numbers e) (expression_tokens e)
    expression grammar.number = fewer (mark here) (omega arith)
    expression grammar.null = fewer (mark here) (omega arith)
    expression (grammar.read {p = p} i) = read_parts p (indexed i)
    expression (grammar.parens h) = fewer (pass (last refl refl (expression h))) (omega arith)
    expression (grammar.weaker h) = expression h
    expression (grammar.binary {k = k} {a = a} {kind = kind} {op = op} l is r) =
        fewer (seq (expression l) (bare (operator_bare a (suc k) kind op is) (mark (expression r)))) (omega arith)

    indexed : {a : Span} {name : List ℕ} {ts rest : List Token} {p : Lvalue} → IsIndexed (ident a name) ts rest p
        → Parts P (tok a (Name name) ∷ ts) rest (lvalue_names p) (lvalue_places p) (lvalue_numbers p) (lvalue_tokens p)
    indexed grammar.whole = fewer (mark here) (omega arith)
    indexed (grammar.item h) = fewer (mark (pass (last refl refl (expression h)))) (omega arith)

  placed : {ts rest : List Token} {p : Lvalue} → IsPlace ts rest p
      → Parts P ts rest (lvalue_names p) (lvalue_places p) (lvalue_numbers p) (lvalue_tokens p)
  placed (grammar.place i) = indexed i

  typed : {ts rest : List Token} {k : VarType} → IsType ts rest k
      → Parts P ts rest (type_names k) (name_places (type_names k)) [] (type_tokens k)
  typed (grammar.ints grammar.plain) = fewer (pass here) (omega arith)
  typed (grammar.ints grammar.array) = fewer (pass (pass (pass here))) (omega arith)
  typed (grammar.objects grammar.plain) = fewer (mark here) (omega arith)
  typed (grammar.objects grammar.array) = fewer (mark (pass (pass here))) (omega arith)

  variable : {ts rest : List Token} {v : Var} → IsVar ts rest v
      → Parts P ts rest (var_names v) (var_places v) [] (var_tokens v)
  variable (grammar.var {a = a} {name = name} {ts = ts} {rest = rest} {k = k} t) =
      subst (λ ps. Parts P ts rest (type_names k ++ ident a name ∷ []) ps [] (type_tokens k + 1))
      (var_places_end k (ident a name)) (fewer (seq (typed t) (mark here)) (omega arith))

  sized : {a : Span} {name : List ℕ} {ts rest : List Token} {c : Creation} → IsSized (ident a name) ts rest c
      → Parts P (tok a (Name name) ∷ ts) rest (creation_names c) (creation_places c) (creation_numbers c)
      (creation_tokens c)
  sized grammar.one = fewer (mark here) (omega arith)
  sized (grammar.sized h) = fewer (mark (pass (last refl refl (expression h)))) (omega arith)

  made : {ts rest : List Token} {c : Creation} → IsMade ts rest c
      → Parts P ts rest (creation_names c) (creation_places c) (creation_numbers c) (creation_tokens c)
  made (grammar.words h) = fewer (pass (pass (last refl refl (expression h)))) (omega arith)
  made (grammar.named s) = sized s

  -- ---- calls

  more_names : {ts rest : List Token} {xs : List Ident} → IsMoreNames ts rest xs
      → Parts P ts rest xs (name_places xs) [] (1 + more_tokens (λ (name : Ident). 1) xs)
  more_names grammar.close = fewer (pass here) (omega arith)
  more_names (grammar.comma m) = fewer (pass (mark (more_names m))) (omega arith)

  call_names : {ts rest : List Token} {xs : List Ident} → IsNames ts rest xs
      → Parts P ts rest xs (name_places xs) [] (1 + list_tokens (λ (name : Ident). 1) xs)
  call_names grammar.none = fewer (pass here) (omega arith)
  call_names (grammar.some {a = a} {name = name} {xs = xs} m) =
      let first = list_tokens_first (λ (name : Ident). 1) (ident a name) xs in
      fewer (mark (more_names m)) (omega (arith, first))

  target : {back : Bool} {a b : Span} {w : Keyword} {name : List ℕ} {ts rest : List Token} {x : Statement}
      → IsTarget a.at back (ident b name) ts rest x → Parts P (tok a (Word w) ∷ tok b (Name name) ∷ ts) rest
      (statement_names x) (statement_places x) (statement_numbers x) (statement_tokens x)
  target (grammar.own ns) = fewer (mark (mark (pass (call_names ns)))) (omega arith)
  target (grammar.on i ns) = fewer (mark (with (indexed i) (pass (mark (pass (call_names ns)))))) (omega arith)

  -- ---- statements

  assigned : {a : Span} {name : List ℕ} {ts mid rest : List Token} {p : Lvalue} {x : Statement}
      → IsIndexed (ident a name) ts mid p → IsAssigned a.at p mid rest x
      → Parts P (tok a (Name name) ∷ ts) rest (statement_names x) (statement_places x) (statement_numbers x)
      (statement_tokens x)
  assigned i (grammar.update {a = a} {kind = kind} {op = op} is h) =
      fewer (again (seq (indexed i) (bare (update_bare a kind op is) (pass (expression h))))) (omega arith)
  assigned i (grammar.swap q) = fewer (again (seq (indexed i) (pass (placed q)))) (omega arith)

  mutual
    statement : {ts rest : List Token} {x : Statement} → IsStatement ts rest x
        → Parts P ts rest (statement_names x) (statement_places x) (statement_numbers x) (statement_tokens x)
    statement (grammar.assign i s) = assigned i s
    statement (grammar.conditional test bs) = fewer (mark (branches (expression test) bs)) (omega arith)
    statement (grammar.repeat entry bs) = fewer (mark (branches (expression entry) bs)) (omega arith)
    statement (grammar.construct body) = fewer (mark (mark (mark (with (block body) (pass (mark here)))))) (omega arith)
    statement (grammar.declare v value s) = fewer (mark (scope (seq (variable v) (pass (expression value))) s))
        (omega arith)
    statement (grammar.make c p) = fewer (mark (seq (made c) (placed p))) (omega arith)
    statement (grammar.delete c p) = fewer (mark (seq (made c) (placed p))) (omega arith)
    statement (grammar.copy k p q) = fewer (mark (seq (seq (typed k) (placed p)) (placed q))) (omega arith)
    statement (grammar.uncopy k p q) = fewer (mark (seq (seq (typed k) (placed p)) (placed q))) (omega arith)
    statement (grammar.call t) = target t
    statement (grammar.uncall t) = target t
    statement grammar.skip = fewer (mark here) (omega arith)

    branches : {first second third : Keyword} {front ts rest : List Token} {ns : List Ident} {ps ws : List ℕ} {n : ℕ}
        {taken other : Statements} {e : Expression} → Parts P front ts ns ps ws n
        → IsBranches first second third ts rest taken other e
        → Parts P front rest (ns ++ block_names taken ++ block_names other ++ expression_names e)
        (ps ++ block_places taken ++ block_places other ++ expression_places e)
        (ws ++ block_numbers taken ++ block_numbers other ++ expression_numbers e)
        (n + 3 + block_tokens taken + block_tokens other + expression_tokens e)
    branches a (grammar.branches taken other e) = fewer (seq (seq (seq a (pass (block taken))) (pass (block other)))
        (pass (expression e))) (omega arith)

    scope : {front ts rest : List Token} {ns : List Ident} {ps ws : List ℕ} {n : ℕ} {body : Statements} {w : Var}
        {e : Expression} → Parts P front ts ns ps ws n → IsScope ts rest body w e
        → Parts P front rest (ns ++ block_names body ++ var_names w ++ expression_names e)
        (ps ++ block_places body ++ var_places w ++ expression_places e)
        (ws ++ block_numbers body ++ expression_numbers e) (n + 2 + block_tokens body + var_tokens w + expression_tokens
        e)
    scope a (grammar.scope body w e) = fewer (seq (with (seq a (block body)) (pass (variable w))) (pass (expression e)))
        (omega arith)

    block : {ts rest : List Token} {xs : Statements} → IsBlock ts rest xs
        → Parts P ts rest (block_names xs) (block_places xs) (block_numbers xs) (block_tokens xs)
    block (grammar.block x xs) = seq (statement x) (statements xs)

    statements : {ts rest : List Token} {xs : List Statement} → IsStatements ts rest xs
        → Parts P ts rest (block_names (statements_of xs)) (block_places (statements_of xs))
        (block_numbers (statements_of xs)) (block_tokens (statements_of xs))
    statements grammar.end = here
    statements (grammar.then x xs) = seq (statement x) (statements xs)

  -- ---- methods and classes

  more_parameters : {ts rest : List Token} {vs : List Var} → IsMoreParams ts rest vs
      → Parts P ts rest (flat_map var_names vs) (flat_map var_places vs) [] (1 + more_tokens var_tokens vs)
  more_parameters grammar.last_param = fewer (pass here) (omega arith)
  more_parameters (grammar.next_param v vs) = fewer (pass (seq (variable v) (more_parameters vs))) (omega arith)

  parameters : {ts rest : List Token} {vs : List Var} → IsParams ts rest vs
      → Parts P ts rest (flat_map var_names vs) (flat_map var_places vs) [] (1 + list_tokens var_tokens vs)
  parameters grammar.no_param = fewer (pass here) (omega arith)
  parameters (grammar.params {v = v} {xs = xs} is more) =
      let first = list_tokens_first var_tokens v xs in
      fewer (seq (variable is) (more_parameters more)) (omega (arith, first))

  method : {ts rest : List Token} {x : Procedure} → IsMethod ts rest x
      → Parts P ts rest (procedure_names x) (procedure_places x) (procedure_numbers x) (procedure_tokens x)
  method (grammar.method ps body) = fewer (pass (mark (pass (seq (parameters ps) (block body))))) (omega arith)

  methods : {ts rest : List Token} {xs : List Procedure} → IsMethods ts rest xs
      → Parts P ts rest (flat_map procedure_names xs) (flat_map procedure_places xs) (flat_map procedure_numbers xs)
      (sum_by procedure_tokens xs)
  methods grammar.no_method = here
  methods (grammar.methods {x = x} {xs = xs} m ms) =
      let first = sum_by-cons procedure_tokens x xs in
      fewer (seq (method m) (methods ms)) (omega (arith, first))

  fields : {ts rest : List Token} {vs : List Var} → IsFields ts rest vs
      → Parts P ts rest (flat_map var_names vs) (flat_map var_places vs) [] (sum_by var_tokens vs)
  fields grammar.no_field = here
  fields (grammar.field {v = v} {xs = xs} is more) =
      let first = sum_by-cons var_tokens v xs in
      fewer (seq (variable is) (fields more)) (omega (arith, first))

  parent : {ts rest : List Token} {p : Option Ident} → IsParent ts rest p
      → Parts P ts rest (parent_names p) (name_places (parent_names p)) [] (parent_tokens p)
  parent grammar.alone = here
  parent grammar.inherits = fewer (pass (mark here)) (omega arith)

  a_class : {ts rest : List Token} {x : ClassText} → IsClass ts rest x
      → Parts P ts rest (class_names x) (class_places x) (class_numbers x) (class_tokens x)
  a_class (grammar.class p fs ms) = fewer (pass (mark (seq (seq (parent p) (fields fs)) (methods ms)))) (omega arith)

  classes : {ts rest : List Token} {xs : List ClassText} → IsClasses ts rest xs
      → Parts P ts rest (flat_map class_names xs) (flat_map class_places xs) (flat_map class_numbers xs)
      (sum_by class_tokens xs)
  classes grammar.no_class = here
  classes (grammar.classes {x = x} {xs = xs} c cs) =
      let first = sum_by-cons class_tokens x xs in
      fewer (seq (a_class c) (classes cs)) (omega (arith, first))

-- the parts of a program are those of its tokens
pub source_parts : (P : ℕ → Type 0) (tokens : List Token) (source : Source) → Derives tokens source
    → Parts P tokens [] (source_names source) (source_places source) (source_numbers source) (source_tokens source)
source_parts P tokens source derives = classes P derives

-- its names are those of its tokens
pub names_are : (tokens : List Token) (source : Source) → Derives tokens source
    → token_names tokens ≡ source_names source
names_are tokens source derives = (source_parts (λ at. Unit {0}) tokens source derives).names
    ∙ append-nil (source_names source)

-- and so are its number literals
pub numbers_are : (tokens : List Token) (source : Source) → Derives tokens source
    → token_numbers tokens ≡ source_numbers source
numbers_are tokens source derives = (source_parts (λ at. Unit {0}) tokens source derives).numbers
    ∙ append-nil (source_numbers source)

-- ---- what holds for tokens

places_of : (P : ℕ → Type 0) (ts : List Token) → AllByRecursion (λ (t : Token). P t.at) ts
    → AllByRecursion P (token_places ts)
places_of P [] h = tt
places_of P (t ∷ ts) h = (h.0, places_of P ts h.1)

names_first : (at : ℕ) (kind : TokenKind) (ns : List Ident) → IsNameToken kind
    → AllByRecursion (λ (name : Ident). IsName name.text) ns
    → AllByRecursion (λ (name : Ident). IsName name.text) (named_at at kind ++ ns)
names_first at (Word w) ns h k = k
names_first at (Name text) ns h k = (h, k)
names_first at (Number n) ns h k = k
names_first at (Sign sign) ns h k = k

names_of : (ts : List Token) → AllByRecursion (λ (t : Token). IsNameToken t.kind) ts
    → AllByRecursion (λ (name : Ident). IsName name.text) (token_names ts)
names_of [] h = tt
names_of (t ∷ ts) h = names_first t.at t.kind (token_names ts) h.0 (names_of ts h.1)

abbrev bytes_of : List Ident → ℕ
bytes_of ns = sum_by (λ name. length name.text) ns

bytes_first : (at : ℕ) (kind : TokenKind) (ns : List Ident)
    → bytes_of (named_at at kind ++ ns) ≡ name_length kind + bytes_of ns
bytes_first at (Word w) ns = omega arith
bytes_first at (Name text) ns =
    let name : Ident = record { at = at; text = text } in
    sum_by-cons (λ (name : Ident). length name.text) name ns
bytes_first at (Number n) ns = omega arith
bytes_first at (Sign sign) ns = omega arith

bytes_same : (ts : List Token) → bytes_of (token_names ts) ≡ sum_by (λ t. name_length t.kind) ts
bytes_same [] = refl
bytes_same (t ∷ ts) =
    let first = bytes_first t.at t.kind (token_names ts) in
    let sum = sum_by-cons (λ (t : Token). name_length t.kind) t ts in
    let rest = bytes_same ts in
    omega (arith, first, sum, rest)

few_where : (many : Bool) (e : ParseError) (other : Option ParseError) → or_else (cond many (Some e) None) other ≡ None
    → many ≡ false
few_where true e other none = cc
few_where false e other none = refl

-- no limit is passed, the limit of tokens included
pub few_tokens : (tokens : List Token) → first_limit tokens ≡ None → length tokens ≤ MOST_TOKENS
few_tokens tokens none =
    ltb-false MOST_TOKENS (length tokens)
    (few_where (nat_lt MOST_TOKENS (length tokens)) (Limit limit.Tokens (offset_at 0 (drop MOST_TOKENS tokens)))
    (passes tokens 0 (Program 0 ∷ []) (Classes [] ∷ [])) none)

-- ---- the number literals

small_first : (kind : TokenKind) (ws : List ℕ) → is_too_large kind ≡ false → AllByRecursion (λ w. w ≤ MOST_NUMBER) ws
    → AllByRecursion (λ w. w ≤ MOST_NUMBER) (numbered_by kind ++ ws)
small_first (Word w) ws h k = k
small_first (Name text) ws h k = k
small_first (Number n) ws h k = (ltb-false MOST_NUMBER n h, k)
small_first (Sign sign) ws h k = k

small_of : (ts : List Token) → AllByRecursion (λ (t : Token). is_too_large t.kind ≡ false) ts
    → AllByRecursion (λ w. w ≤ MOST_NUMBER) (token_numbers ts)
small_of [] h = tt
small_of (t ∷ ts) h = small_first t.kind (token_numbers ts) h.0 (small_of ts h.1)

-- if every number token is small enough, every literal is
pub small_numbers : (tokens : List Token) (source : Source) → Derives tokens source → AreSmallTokens tokens
    → All (λ w. w ≤ MOST_NUMBER) (source_numbers source)
small_numbers tokens source derives small =
    All-from_recursion (λ w. w ≤ MOST_NUMBER) (source_numbers source)
    (subst (AllByRecursion (λ w. w ≤ MOST_NUMBER)) (numbers_are tokens source derives)
    (small_of tokens (recursion_from_All (λ (t : Token). is_too_large t.kind ≡ false) tokens small)))

-- ---- what holds for the syntax tree

pub within_limits : (tokens : List Token) (source : Source) (bytes : ℕ) → Derives tokens source → IsSmall source
    → length tokens ≤ MOST_TOKENS → IsReadable tokens bytes → AreSmallTokens tokens → IsWithinLimits source
within_limits tokens source bytes derives small few readable numbers =
    let parts = source_parts (λ at. at < MOST_BYTES) tokens source derives in
    let same = names_are tokens source derives in
    record {
      classes_few = small.classes_few;
      methods_small = small.methods_small;
      tokens_few = let size = parts.tokens in omega arith;
      places = All-from_recursion (λ at. at < MOST_BYTES) (source_places source)
          (parts.places (places_of (λ at. at < MOST_BYTES) tokens
          (recursion_from_All (λ (t : Token). t.at < MOST_BYTES) tokens readable.places))).0;
      names = All-from_recursion (λ (name : Ident). IsName name.text) (source_names source)
          (subst (AllByRecursion (λ (name : Ident). IsName name.text)) same
          (names_of tokens (recursion_from_All (λ (t : Token). IsNameToken t.kind) tokens readable.names)));
      name_bytes =
          let all = bytes_same tokens in
          let moved = ap bytes_of same in
          let most = readable.name_bytes in
          omega (arith, all, moved, most);
      numbers = small_numbers tokens source derives numbers;
    }

small_each : (at : ℕ) (rest : List ℕ) (tokens : List Token) (refusal : Option Refusal) → Cut at rest tokens refusal
    → AllByRecursion (λ (t : Token). is_too_large t.kind ≡ false) tokens
small_each _ _ _ _ (finish at) = tt
small_each _ _ _ _ (white at rest tokens refusal blank cut) = small_each (at + 1) (drop 1 rest) tokens refusal cut
small_each _ _ _ _ (comment at rest tokens refusal starts cut) =
    small_each (at + comment_length rest) (drop (comment_length rest) rest) tokens refusal cut
small_each _ _ _ _ (token at rest kind len tokens refusal none long small cut) =
    (small, small_each (at + len) (drop len rest) tokens refusal cut)
small_each _ _ _ _ (bad_byte at rest nothing) = tt
small_each _ _ _ _ (too_large at rest kind len none long large) = tt

-- and the lexer gives only such
pub small_tokens : (text : List ℕ) (tokens : List Token) → IsCutting text tokens
    → All (λ (t : Token). is_too_large t.kind ≡ false) tokens
small_tokens text tokens cut = All-from_recursion (λ (t : Token). is_too_large t.kind ≡ false) tokens
    (small_each 0 text tokens None cut)

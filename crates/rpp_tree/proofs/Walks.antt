-- Laws of walks, each stated once for all of them.
use Rattle.std.proofs.Common.{◌≡◌, ℕ, List, [], ◌∷◌, map, refl, sym, ◌∙◌, ap}
use Rattle.rpp_tree.specs.declared.tree.Ident.{Ident}
use Rattle.rpp_tree.specs.declared.tree.Var.{Var}
use Rattle.rpp_tree.specs.Tree.{Expression, Statement, Statements, Update, If, From, Construct, Local, End, Then}
use Rattle.rpp_tree.specs.Tree.{joined}
use Rattle.rpp_tree.specs.Tree.{TreePart, Walk, walk, walk_block, own_parts, each_after, each_part}
use Rattle.rpp_tree.specs.Bare.{bare_name, bare_var, bare_expression, bare_part, bare_statement, bare}

-- what a walk says of one block and then another, if it joins what it says of statements
pub walk_joined {ℓ} : {A : Type ℓ} (w : Walk A) (join : A → A → A)
    → ((first : Statement) (said rest : A) → w.next first said rest ≡ join said rest)
    → ((rest : A) → join w.none rest ≡ rest) → ((a b c : A) → join (join a b) c ≡ join a (join b c))
    → (body rest : Statements) → walk_block w (joined body rest) ≡ join (walk_block w body) (walk_block w rest)
walk_joined w join next none turned End rest = sym (none (walk_block w rest))
walk_joined w join next none turned (Then first body) rest =
    next first (walk w first) (walk_block w (joined body rest))
    ∙ ap (λ l. join (walk w first) l) (walk_joined w join next none turned body rest)
    ∙ sym (turned (walk w first) (walk_block w body) (walk_block w rest))
    ∙ sym (ap (λ l. join l (walk_block w rest)) (next first (walk w first) (walk_block w body)))

-- ---- two walks

-- what two walks say is related, if it is so of each form
pub record AreRelated {ℓ κ μ} {A : Type ℓ} {B : Type κ} (R : A → B → Type μ) (v : Walk A) (w : Walk B)
    : Type (ℓ ⊔ κ ⊔ μ) where
  pub plain : (at : ℕ) (parts : List TreePart) → R (v.plain at parts) (w.plain at parts)
  pub forked : (at : ℕ) (before : Expression) (a b : A) (c d : B) (after : Expression) → R a c → R b d
      → R (v.forked at before a b after) (w.forked at before c d after)
  pub construct : (at : ℕ) (class name : Ident) (a : A) (c : B) (end : Ident) → R a c
      → R (v.construct at class name a end) (w.construct at class name c end)
  pub local : (at : ℕ) (var : Var) (value : Expression) (a : A) (c : B) (end_var : Var) (end_value : Expression)
      → R a c → R (v.local at var value a end_var end_value) (w.local at var value c end_var end_value)
  pub none : R v.none w.none
  pub next : (first : Statement) (a b : A) (c d : B) → R a c → R b d → R (v.next first a b) (w.next first c d)

mutual
  pub walk_related {ℓ κ μ} : {A : Type ℓ} {B : Type κ} {R : A → B → Type μ} {v : Walk A} {w : Walk B}
      → AreRelated R v w → (s : Statement) → R (walk v s) (walk w s)
  walk_related h (If at test taken other after) =
      h.forked at test _ _ _ _ after (block_related h taken) (block_related h other)
  walk_related h (From at entry first again exit) =
      h.forked at entry _ _ _ _ exit (block_related h first) (block_related h again)
  walk_related h (Construct at class name body end) = h.construct at class name _ _ end (block_related h body)
  walk_related h (Local at var value body end_var end_value) =
      h.local at var value _ _ end_var end_value (block_related h body)
  walk_related h _ = h.plain _ _

  pub block_related {ℓ κ μ} : {A : Type ℓ} {B : Type κ} {R : A → B → Type μ} {v : Walk A} {w : Walk B}
      → AreRelated R v w → (body : Statements) → R (walk_block v body) (walk_block w body)
  block_related h End = h.none
  block_related h (Then first rest) = h.next first _ _ _ _ (walk_related h first) (block_related h rest)

-- and what is said of parts, if it is so of each part and of what is joined
after_related {ℓ κ μ} : {A : Type ℓ} {B : Type κ} (R : A → B → Type μ) (one : A → A → A) (two : B → B → B)
    (f : TreePart → A) (g : TreePart → B) → ((a b : A) (c d : B) → R a c → R b d → R (one a b) (two c d))
    → ((p : TreePart) → R (f p) (g p)) → (a : A) (c : B) → R a c → (parts : List TreePart)
    → R (each_after one f a parts) (each_after two g c parts)
after_related R one two f g both each a c h [] = h
after_related R one two f g both each a c h (p ∷ parts) =
    after_related R one two f g both each (one a (f p)) (two c (g p)) (both a (f p) c (g p) h (each p)) parts

pub parts_related {ℓ κ μ} : {A : Type ℓ} {B : Type κ} (R : A → B → Type μ) (one : A → A → A) (two : B → B → B)
    (f : TreePart → A) (g : TreePart → B) (none : A) (nothing : B)
    → ((a b : A) (c d : B) → R a c → R b d → R (one a b) (two c d)) → ((p : TreePart) → R (f p) (g p)) → R none nothing
    → (parts : List TreePart) → R (each_part one f none parts) (each_part two g nothing parts)
parts_related R one two f g none nothing both each h [] = h
parts_related R one two f g none nothing both each h (p ∷ parts) =
    after_related R one two f g both each (f p) (g p) (each p) parts

-- ---- syntax trees that are equal up to offsets

-- what a walk says of a syntax tree without its places is related to what it says of the syntax
-- tree
pub record IsBlind {ℓ μ} {A : Type ℓ} (R : A → A → Type μ) (w : Walk A) : Type (ℓ ⊔ μ) where
  pub plain : (at : ℕ) (parts : List TreePart) → R (w.plain 0 (map bare_part parts)) (w.plain at parts)
  pub forked : (at : ℕ) (before : Expression) (a b c d : A) (after : Expression) → R a c → R b d
      → R (w.forked 0 (bare_expression before) a b (bare_expression after)) (w.forked at before c d after)
  pub construct : (at : ℕ) (class name : Ident) (a c : A) (end : Ident) → R a c
      → R (w.construct 0 (bare_name class) (bare_name name) a (bare_name end)) (w.construct at class name c end)
  pub local : (at : ℕ) (var : Var) (value : Expression) (a c : A) (end_var : Var) (end_value : Expression) → R a c
      → R (w.local 0 (bare_var var) (bare_expression value) a (bare_var end_var) (bare_expression end_value))
      (w.local at var value c end_var end_value)
  pub none : R w.none w.none
  pub next : (first : Statement) (a b c d : A) → R a c → R b d
      → R (w.next (bare_statement first) a b) (w.next first c d)

mutual
  pub walk_bare {ℓ μ} : {A : Type ℓ} {R : A → A → Type μ} {w : Walk A} → IsBlind R w → (s : Statement)
      → R (walk w (bare_statement s)) (walk w s)
  walk_bare h (If at test taken other after) =
      h.forked at test _ _ _ _ after (block_bare h taken) (block_bare h other)
  walk_bare h (From at entry first again exit) =
      h.forked at entry _ _ _ _ exit (block_bare h first) (block_bare h again)
  walk_bare h (Construct at class name body end) = h.construct at class name _ _ end (block_bare h body)
  walk_bare h (Local at var value body end_var end_value) =
      h.local at var value _ _ end_var end_value (block_bare h body)
  walk_bare h _ = h.plain _ _

  pub block_bare {ℓ μ} : {A : Type ℓ} {R : A → A → Type μ} {w : Walk A} → IsBlind R w → (body : Statements)
      → R (walk_block w (bare body)) (walk_block w body)
  block_bare h End = h.none
  block_bare h (Then first rest) = h.next first _ _ _ _ (walk_bare h first) (block_bare h rest)

-- the parts of a statement without places are its parts without places
pub own_parts_bare : (s : Statement) → own_parts (bare_statement s) ≡ map bare_part (own_parts s)
own_parts_bare (Update at op target value) = refl
own_parts_bare _ = refl

bare_after {ℓ} : {A : Type ℓ} (join : A → A → A) (said : TreePart → A) → ((p : TreePart) → said (bare_part p) ≡ said p)
    → (before : A) (parts : List TreePart) → each_after join said before (map bare_part parts)
    ≡ each_after join said before parts
bare_after join said same before [] = refl
bare_after join said same before (p ∷ parts) =
    ap (λ x. each_after join said (join before x) (map bare_part parts)) (same p)
    ∙ bare_after join said same (join before (said p)) parts

-- what is said of parts that is the same without their places
pub each_bare {ℓ} : {A : Type ℓ} (join : A → A → A) (said : TreePart → A) (none : A)
    → ((p : TreePart) → said (bare_part p) ≡ said p) → (parts : List TreePart)
    → each_part join said none (map bare_part parts) ≡ each_part join said none parts
each_bare join said none same [] = refl
each_bare join said none same (p ∷ parts) =
    ap (λ x. each_after join said x (map bare_part parts)) (same p) ∙ bare_after join said same (said p) parts

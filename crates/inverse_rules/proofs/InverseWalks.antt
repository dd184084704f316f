-- What walks say of inverses.
use Rattle.std.proofs.Common.{◌≡◌, ℕ, ◌+◌, max, Bool, List, refl, arith}
use Rattle.rpp_tree.specs.declared.tree.Ident.{Ident}
use Rattle.rpp_tree.specs.declared.tree.Var.{Var}
use Rattle.rpp_tree.specs.Tree.{Expression, Statement, Statements, If, From, Construct, Local, End, Then, joined, TreePart}
use Rattle.rpp_tree.specs.Tree.{Operand, Walk, walk, walk_block, own_parts, each_part, nesting, depth}
use Rattle.rpp_tree.specs.Limits.{held_locals, locals}
use Rattle.rpp_tree.proofs.Walks.{walk_joined}
use Rattle.inverse_rules.specs.Inverse.{inverse_statement_as, inverse_as}

-- what a walk says of an inverse is related to what it says of the syntax tree
pub record IsTurned {ℓ μ} {A : Type ℓ} (R : A → A → Type μ) (w : Walk A) (turn : Bool) : Type (ℓ ⊔ μ) where
  pub plain : (at : ℕ) (parts : List TreePart) → R (w.plain at parts) (w.plain at parts)
  pub forked : (at : ℕ) (before : Expression) (a b c d : A) (after : Expression) → R a c → R b d
      → R (w.forked at after a b before) (w.forked at before c d after)
  pub construct : (at : ℕ) (class name : Ident) (a c : A) (end : Ident) → R a c
      → R (w.construct at class name a end) (w.construct at class name c end)
  pub local : (at : ℕ) (var : Var) (value : Expression) (a c : A) (end_var : Var) (end_value : Expression) → R a c
      → R (w.local at end_var end_value a var value) (w.local at var value c end_var end_value)
  pub none : R w.none w.none
  pub last : (first : Statement) (body : Statements) (said rest : A)
      → R (walk w (inverse_statement_as turn first)) said → R (walk_block w body) rest
      → R (walk_block w (joined body (Then (inverse_statement_as turn first) End))) (w.next first said rest)

mutual
  pub walk_turned {ℓ μ} : {A : Type ℓ} {R : A → A → Type μ} {w : Walk A} {turn : Bool} → IsTurned R w turn
      → (s : Statement) → R (walk w (inverse_statement_as turn s)) (walk w s)
  walk_turned h (If at test taken other after) =
      h.forked at test _ _ _ _ after (block_turned h taken) (block_turned h other)
  walk_turned h (From at entry first again exit) =
      h.forked at entry _ _ _ _ exit (block_turned h first) (block_turned h again)
  walk_turned h (Construct at class name body end) = h.construct at class name _ _ end (block_turned h body)
  walk_turned h (Local at var value body end_var end_value) =
      h.local at var value _ _ end_var end_value (block_turned h body)
  walk_turned h _ = h.plain _ _

  pub block_turned {ℓ μ} : {A : Type ℓ} {R : A → A → Type μ} {w : Walk A} {turn : Bool} → IsTurned R w turn
      → (body : Statements) → R (walk_block w (inverse_as turn body)) (walk_block w body)
  block_turned h End = h.none
  block_turned {turn = turn} h (Then first rest) =
      h.last first (inverse_as turn rest) _ _ (walk_turned h first) (block_turned h rest)

-- what is said of the parts of a statement, in whichever order, is said of those of its inverse
pub own_parts_turned {ℓ} : {A : Type ℓ} (join : A → A → A) (said : TreePart → A) (none : A)
    → ((a b : A) → join a b ≡ join b a) → (turn : Bool) (s : Statement)
    → each_part join said none (own_parts (inverse_statement_as turn s)) ≡ each_part join said none (own_parts s)
own_parts_turned join said none commutes turn (If at test taken other after) =
    commutes (said (Operand after)) (said (Operand test))
own_parts_turned join said none commutes turn (From at entry first again exit) =
    commutes (said (Operand exit)) (said (Operand entry))
own_parts_turned join said none commutes turn (Local at var value body end_var end_value) =
    commutes (said (Operand end_value)) (said (Operand value))
own_parts_turned join said none commutes turn _ = refl

-- ---- how deep statements are nested, and how many locals are held

max_none : (a : ℕ) → max 0 a ≡ a
max_none a = omega arith

max_turned : (a b c : ℕ) → max (max a b) c ≡ max a (max b c)
max_turned a b c = omega arith

pub depth_joined : (a b : Statements) → depth (joined a b) ≡ max (depth a) (depth b)
depth_joined = walk_joined nesting max (λ first said rest. refl) max_none max_turned

pub locals_joined : (a b : Statements) → locals (joined a b) ≡ max (locals a) (locals b)
locals_joined = walk_joined held_locals max (λ first said rest. refl) max_none max_turned

-- the deepest of two, the last of which comes after the other
last_deepest : (whole body last said rest : ℕ) → whole ≡ max body (max last 0) → last ≡ said → body ≡ rest
    → whole ≡ max said rest
last_deepest whole body last said rest h k l = omega (arith, h, k, l)

both_deep : (n a b c d : ℕ) → a ≡ c → b ≡ d → n + max a b ≡ n + max c d
both_deep n a b c d h k = omega (arith, h, k)

module _ (turn : Bool) where
  depth_turned : IsTurned (λ (a b : ℕ). a ≡ b) nesting turn
  depth_turned = record {
    plain = λ at parts. refl;
    forked = λ at before a b c d after h k. both_deep 1 a b c d h k;
    construct = λ at class name a c end h. omega (arith, h);
    local = λ at var value a c end_var end_value h. omega (arith, h);
    none = refl;
    last = λ first body said rest h k. last_deepest _ (depth body) (walk nesting (inverse_statement_as turn first)) said
        rest (depth_joined body (Then (inverse_statement_as turn first) End)) h k;
  }

  locals_turned : IsTurned (λ (a b : ℕ). a ≡ b) held_locals turn
  locals_turned = record {
    plain = λ at parts. refl;
    forked = λ at before a b c d after h k. omega (arith, h, k);
    construct = λ at class name a c end h. omega (arith, h);
    local = λ at var value a c end_var end_value h. omega (arith, h);
    none = refl;
    last = λ first body said rest h k. last_deepest _ (locals body) (walk held_locals (inverse_statement_as turn first))
        said rest (locals_joined body (Then (inverse_statement_as turn first) End)) h k;
  }

  pub depth_undone : (body : Statements) → depth (inverse_as turn body) ≡ depth body
  depth_undone body = block_turned depth_turned body

  pub locals_undone : (body : Statements) → locals (inverse_as turn body) ≡ locals body
  locals_undone body = block_turned locals_turned body

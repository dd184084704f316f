-- The limits that the tokens of a program pass. They are counted token by token, as far as the
-- tokens are those of a program.
use Rattle.std.specs.Prelude.{◌≡◌, ℕ, suc, pred, Bool, true, false, not, ◌||◌, List, [], ◌∷◌, ◌++◌}
use Rattle.std.specs.Prelude.{length, drop, nat_lt, cond, Option, Some, None}
use Rattle.std.specs.Option.{option_or}
use Rattle.std.proofs.Common.{zero}
use Rattle.roopl_parser.specs.rpp_tree.declared.tree.BinOp.{BinOp}
use Rattle.roopl_parser.specs.rpp_tree.declared.limits.TheConstants.{MOST_TOKENS, MOST_NODES}
use Rattle.roopl_parser.specs.rpp_tree.declared.limits.TheConstants.{MOST_PARENS, MOST_NESTING}
use Rattle.roopl_parser.specs.rpp_tree.declared.limits.TheConstants.{MOST_LOCALS}
use Rattle.roopl_parser.specs.rpp_tree.declared.limits.TheConstants.{MOST_PARAMETERS}
use Rattle.roopl_parser.specs.rpp_tree.declared.limits.TheConstants.{MOST_CLASSES}
use Rattle.roopl_parser.specs.roopl_lexer.declared.token.Token.{Token}
use Rattle.roopl_parser.specs.roopl_lexer.declared.token.TokenKind.{TokenKind}
use Rattle.roopl_parser.specs.roopl_lexer.declared.token.TokenKind.TheVariants as token
use Rattle.roopl_parser.specs.roopl_lexer.declared.token.Keyword.TheVariants as word
use Rattle.roopl_parser.specs.roopl_lexer.declared.token.Symbol.TheVariants as sign
use Rattle.roopl_parser.specs.Operators.{operator_at}
use Rattle.roopl_parser.specs.Viable.{IsViable, offset_at}

-- What is still to come: any one token, or a symbol of the grammar with its counts. Counts: p open
-- parentheses, d statements around it, l locals around it, c that come before it; `Count n` sets
-- the count of nodes.
pub data CountPart : Type 0 where
  Any : CountPart
  Level : (k p : ℕ) → CountPart
  More : (k p : ℕ) → CountPart
  Index : (p : ℕ) → CountPart
  Brackets : CountPart
  Block : (d l : ℕ) → CountPart
  Assign : CountPart
  Branches : (d l : ℕ) → CountPart
  Scope : (d l : ℕ) → CountPart
  Receiver : (l : ℕ) → CountPart
  Args : CountPart
  Params : (c : ℕ) → CountPart
  Count : (n : ℕ) → CountPart
  Program : (c : ℕ) → CountPart

-- what a token leads to: whether it passes a limit, the count of nodes after it, and what comes then
pub data CountStep : Type 0 where
  To : (count_passes : Bool) (nodes : ℕ) (stack : List CountPart) → CountStep

-- a token passes the limit of a count that is already equal to it
abbrev pub is_full : (most count : ℕ) → Bool
is_full most count = not (nat_lt count most)

-- a token that is a node of an expression
abbrev pub node : ℕ → List CountPart → CountStep
node n s = To (is_full MOST_NODES n) (suc n) s

-- the operators of the levels up to k that may follow an operand
abbrev pub count_mores : ℕ → ℕ → List CountPart → List CountPart
count_mores zero p s = s
count_mores (suc k) p s = count_mores k p (More (suc k) p ∷ s)

-- the first token of an expression whose operators are of level k at most
abbrev pub count_operand : (k p : ℕ) → List CountPart → ℕ → TokenKind → CountStep
count_operand k p s n (token.Name x) = node n (Index p ∷ count_mores k p s)
count_operand k p s n (token.Sign sign.LeftParen) =
    To (is_full MOST_PARENS p) n (Level 9 (suc p) ∷ Any ∷ count_mores k p s)
count_operand k p s n _ = node n (count_mores k p s)

abbrev pub count_more : (k p : ℕ) → List CountPart → ℕ → CountStep → Option BinOp → CountStep
count_more k p s n other None = other
count_more k p s n other (Some op) = node n (Level (pred k) p ∷ More k p ∷ s)

-- an index, or nothing: `other` goes on after nothing
abbrev pub count_index : (p : ℕ) → List CountPart → ℕ → CountStep → TokenKind → CountStep
count_index p s n other (token.Sign sign.LeftBracket) = To false n (Level 9 p ∷ Any ∷ s)
count_index p s n other _ = other

abbrev pub count_brackets : List CountPart → ℕ → CountStep → TokenKind → CountStep
count_brackets s n other (token.Sign sign.LeftBracket) = To false n (Any ∷ s)
count_brackets s n other _ = other

-- the first token of a statement with d statements around it
abbrev pub nested : ℕ → List CountPart → CountStep
nested d s = To (is_full MOST_NESTING d) 0 s

-- the same of a statement that makes a local
abbrev pub scoped : (d l : ℕ) → List CountPart → CountStep
scoped d l s =
    To (is_full MOST_NESTING d || is_full MOST_LOCALS l) 0 s

-- the first token of a statement, or other
abbrev pub count_statement : (d l : ℕ) → List CountPart → CountStep → TokenKind → CountStep
count_statement d l s other (token.Name x) = nested d (Index 0 ∷ Assign ∷ Count 0 ∷ s)
count_statement d l s other (token.Word word.If) = nested d (Level 9 0 ∷ Branches d l ∷ Count 0 ∷ s)
count_statement d l s other (token.Word word.From) = nested d (Level 9 0 ∷ Branches d l ∷ Count 0 ∷ s)
count_statement d l s other (token.Word word.Construct) =
    scoped d l (Any ∷ Any ∷ Block (suc d) (suc l) ∷ Any ∷ Any ∷ s)
count_statement d l s other (token.Word word.Local) =
    scoped d l (Any ∷ Brackets ∷ Any ∷ Any ∷ Level 9 0 ∷ Scope d l ∷ Count 0 ∷ s)
count_statement d l s other (token.Word word.New) =
    nested d (Any ∷ Index 0 ∷ Any ∷ Index 0 ∷ Count 0 ∷ s)
count_statement d l s other (token.Word word.Delete) =
    nested d (Any ∷ Index 0 ∷ Any ∷ Index 0 ∷ Count 0 ∷ s)
count_statement d l s other (token.Word word.Copy) =
    nested d (Any ∷ Brackets ∷ Any ∷ Index 0 ∷ Any ∷ Index 0 ∷ Count 0 ∷ s)
count_statement d l s other (token.Word word.Uncopy) =
    nested d (Any ∷ Brackets ∷ Any ∷ Index 0 ∷ Any ∷ Index 0 ∷ Count 0 ∷ s)
count_statement d l s other (token.Word word.Call) = nested d (Any ∷ Receiver l ∷ Count 0 ∷ s)
count_statement d l s other (token.Word word.Uncall) = nested d (Any ∷ Receiver l ∷ Count 0 ∷ s)
count_statement d l s other (token.Word word.Skip) = nested d s
count_statement d l s other _ = other

-- what follows the place that a statement begins with
abbrev pub count_assigned : List CountPart → ℕ → TokenKind → CountStep
count_assigned s n (token.Sign sign.Swap) = To false n (Any ∷ Index 0 ∷ s)
count_assigned s n _ = To false n (Level 9 0 ∷ s)

-- what follows the first name of a call; an element whose method is called is held in a local
abbrev pub count_receiver : ℕ → List CountPart → ℕ → TokenKind → CountStep
count_receiver l s n (token.Sign sign.LeftBracket) =
    To (is_full MOST_LOCALS l) n (Level 9 0 ∷ Any ∷ Any ∷ Any ∷ Any ∷ Args ∷ s)
count_receiver l s n (token.Sign sign.DoubleColon) = To false n (Any ∷ Any ∷ Args ∷ s)
count_receiver l s n _ = To false n (Args ∷ s)

-- arguments, up to the parenthesis after them
abbrev pub count_args : List CountPart → ℕ → TokenKind → CountStep
count_args s n (token.Sign sign.RightParen) = To false n s
count_args s n (token.Sign sign.Comma) = To false n (Any ∷ Args ∷ s)
count_args s n _ = To false n (Args ∷ s)

-- parameters, up to the parenthesis after them
abbrev pub count_params : ℕ → List CountPart → ℕ → TokenKind → CountStep
count_params c s n (token.Sign sign.RightParen) = To false n s
count_params c s n (token.Sign sign.Comma) = To false n (Params c ∷ s)
count_params c s n _ =
    To (is_full MOST_PARAMETERS c) n (Brackets ∷ Any ∷ Params (suc c) ∷ s)

-- a class, a parent, a method or a field
abbrev pub count_program : ℕ → List CountPart → ℕ → TokenKind → CountStep
count_program c s n (token.Word word.Class) =
    To (is_full MOST_CLASSES c) n (Any ∷ Program (suc c) ∷ s)
count_program c s n (token.Word word.Inherits) = To false n (Any ∷ Program c ∷ s)
count_program c s n (token.Word word.Method) =
    To false n (Any ∷ Any ∷ Params 0 ∷ Block 0 0 ∷ Program c ∷ s)
count_program c s n _ = To false n (Brackets ∷ Any ∷ Program c ∷ s)

-- what a token leads to, if n nodes of the statement came before it
abbrev pub count_walk : List CountPart → ℕ → TokenKind → CountStep
count_walk [] n kind = To false n []
count_walk (Any ∷ s) n kind = To false n s
count_walk (Level k p ∷ s) n kind = count_operand k p s n kind
count_walk (More k p ∷ s) n kind = count_more k p s n (count_walk s n kind) (operator_at k kind)
count_walk (Index p ∷ s) n kind = count_index p s n (count_walk s n kind) kind
count_walk (Brackets ∷ s) n kind = count_brackets s n (count_walk s n kind) kind
count_walk (Block d l ∷ s) n kind = count_statement d l (Block d l ∷ s) (count_walk s n kind) kind
count_walk (Assign ∷ s) n kind = count_assigned s n kind
count_walk (Branches d l ∷ s) n kind =
    To false n (Block (suc d) l ∷ Any ∷ Block (suc d) l ∷ Any ∷ Count n ∷ Level 9 0 ∷ s)
count_walk (Scope d l ∷ s) n kind =
    count_statement (suc d) (suc l) (Block (suc d) (suc l) ∷ Any ∷ Any ∷ Brackets ∷ Any ∷ Any ∷ Count n
    ∷ Level 9 0 ∷ s) (To false n s) kind
count_walk (Receiver l ∷ s) n kind = count_receiver l s n kind
count_walk (Args ∷ s) n kind = count_args s n kind
count_walk (Params c ∷ s) n kind = count_params c s n kind
count_walk (Count m ∷ s) n kind = count_walk s m kind
count_walk (Program c ∷ s) n kind = count_program c s n kind

abbrev pub count_passing : ℕ → (ℕ → List CountPart → Option ℕ) → CountStep → Option ℕ
count_passing at next (To false n s) = next n s
count_passing at next (To true n s) = Some at

-- the place of the first token that passes a limit
unfoldable pub count_passes : List Token → ℕ → List CountPart → Option ℕ
count_passes [] = λ n s. None
count_passes (t ∷ ts) = λ n s. count_passing t.at (count_passes ts) (count_walk s n t.kind)

-- the place of the first token of too many
abbrev pub count_too_many : List Token → Option ℕ
count_too_many tokens = cond (nat_lt MOST_TOKENS (length tokens))
    (Some (offset_at 0 (drop MOST_TOKENS tokens))) None

-- some first tokens of these, with which a program's tokens may begin
pub record Begins (tokens : List Token) : Type 0 where
  pub front : List Token
  pub rest : List Token
  pub all : tokens ≡ front ++ rest
  pub viable : IsViable front

-- The place at which a limit is passed first, as far as the tokens are those of a program: that of
-- tokens, or else another one by these first tokens.
abbrev pub count_first_limit : (tokens front : List Token) → Option ℕ
count_first_limit tokens front = option_or (count_too_many tokens) (count_passes front 0 (Program 0 ∷ []))

-- What is awaited may come: every stack can be completed.
use Rattle.std.specs.Prelude.{ℕ, suc, List, [], ◌∷◌, ◌++◌, None, refl}
use Rattle.std.proofs.Common.{zero, inl}
use Rattle.roopl_lexer.specs.rpp_tree.declared.tree.Ident.{Ident}
use Rattle.roopl_lexer.specs.rpp_tree.declared.tree.Var.{Var}
use Rattle.roopl_lexer.specs.rpp_tree.declared.tree.VarType.TheVariants as kind
use Rattle.roopl_lexer.specs.rpp_tree.Tree.{Number, Whole, Object, Statements, Swap, Call, Skip}
use Rattle.roopl_lexer.specs.rpp_tree.Views.{statements_of}
use Rattle.roopl_lexer.specs.declared.token.Token.{Token}
use Rattle.roopl_lexer.specs.declared.token.TokenKind.TheVariants.{Word, Name, Sign}
use Rattle.roopl_lexer.specs.declared.token.TokenKind.TheVariants as token
use Rattle.roopl_lexer.specs.declared.token.Keyword.TheVariants as word
use Rattle.roopl_lexer.specs.declared.token.Symbol.TheVariants as sign
use Rattle.roopl_parser.specs.Operators.{Span, tok, ident}
use Rattle.roopl_parser.specs.Grammar.{IsExpr, number, weaker, whole, place, plain, ints, IsVar, var, one, named, none}
use Rattle.roopl_parser.specs.Grammar.{own, swap, skip, branches, scope, IsBlock, block, end, no_param, alone}
use Rattle.roopl_parser.specs.Reader.{ParsedValue, Part, AnExpr, AnIdent, Idents, APlace, AType, AVar, Vars, ACreation}
use Rattle.roopl_parser.specs.Reader.{AStatement, ABlock, AParent, AWord, ASign, AName, Level, More, Index, Spot, Kind}
use Rattle.roopl_parser.specs.Reader.{Brackets, Made, Sized, Single, Block, Stmts, Assign, Branches, Scope, Receiver}
use Rattle.roopl_parser.specs.Reader.{Args, MoreArgs, Params, Param, MoreParams, Count, Build, Parent, Fields}
use Rattle.roopl_parser.specs.Reader.{Procedures, Program, MakeWhole, MakeObject, as_name, as_place, as_vars, top}
use Rattle.roopl_parser.specs.Reader.{under, build}
use Rattle.roopl_parser.proofs.Sound.{Gen}

abbrev here : Span
here = record { at = 0; len = 0 }

nought : (k : ℕ) (rest : List Token) → IsExpr k (tok here (token.Number 0) ∷ rest) rest (Number 0 0)
nought zero rest = number
nought (suc k) rest = weaker (nought k rest)

abbrev skipping : Statements
skipping = statements_of (Skip 0 ∷ [])

abbrev nobody : Ident
nobody = ident here []

abbrev nothing : Var
nothing = record { kind = kind.Int; name = nobody }

skip_block : (rest : List Token) → IsBlock (tok here (Word word.Skip) ∷ rest) rest skipping
skip_block rest = block skip end

int_var : (rest : List Token) → IsVar (tok here (Word word.Int) ∷ tok here (Name []) ∷ rest) rest nothing
int_var rest = var (ints plain)

pub productive : (s : List Part) (vs : List ParsedValue) → (more : List Token) × (q : ParsedValue) × Gen s vs more q
productive [] vs = ([], top vs, (refl, refl))
productive (AWord w ∷ s) vs = let r = productive s vs in (tok here (Word w) ∷ r.0, r.1, (here, r.0, refl, r.2))
productive (ASign w ∷ s) vs = let r = productive s vs in (tok here (Sign w) ∷ r.0, r.1, (here, r.0, refl, r.2))
productive (AName ∷ s) vs = let r = productive s (AnIdent nobody ∷ vs) in
    (tok here (Name []) ∷ r.0, r.1, (here, [], r.0, refl, r.2))
productive (Level k p i ∷ s) vs = let r = productive s (AnExpr (Number 0 0) ∷ vs) in
    (tok here (token.Number 0) ∷ r.0, r.1, (r.0, Number 0 0, nought k r.0, r.2))
productive (More k p i ∷ s) vs = let r = productive s vs in (r.0, r.1, inl r.2)
productive (Index p i ∷ s) vs = let r = productive s (build MakeWhole vs) in
    (r.0, r.1, (r.0, Whole (as_name (top vs)), whole, r.2))
productive (Spot ∷ s) vs = let r = productive s (APlace (Whole nobody) ∷ vs) in
    (tok here (Name []) ∷ r.0, r.1, (r.0, Whole nobody, place whole, r.2))
productive (Kind ∷ s) vs = let r = productive s (AType kind.Int ∷ vs) in
    (tok here (Word word.Int) ∷ r.0, r.1, (r.0, kind.Int, ints plain, r.2))
productive (Brackets ∷ s) vs = let r = productive s vs in (r.0, r.1, inl r.2)
productive (Made ∷ s) vs = let r = productive s (ACreation (Object nobody) ∷ vs) in
    (tok here (Name []) ∷ r.0, r.1, (r.0, Object nobody, named one, r.2))
productive (Sized ∷ s) vs = let r = productive s (build MakeObject vs) in
    (r.0, r.1, (r.0, Object (as_name (top vs)), one, r.2))
productive (Single d l ∷ s) vs = let r = productive s (AStatement (Skip 0) ∷ vs) in
    (tok here (Word word.Skip) ∷ r.0, r.1, (r.0, Skip 0, skip, r.2))
productive (Block d l ∷ s) vs = let r = productive s (ABlock skipping ∷ vs) in
    (tok here (Word word.Skip) ∷ r.0, r.1, (r.0, skipping, skip_block r.0, r.2))
productive (Stmts d l ∷ s) vs = let r = productive s vs in (r.0, r.1, inl r.2)
productive (Assign at ∷ s) vs =
    let x = Swap at (as_place (top vs)) (Whole nobody) in
    let r = productive s (AStatement x ∷ under vs) in
    (tok here (Sign sign.Swap) ∷ tok here (Name []) ∷ r.0, r.1, (r.0, x, swap (place whole), r.2))
productive (Branches first second third d l ∷ s) vs =
    let r = productive s (AnExpr (Number 0 0) ∷ ABlock skipping ∷ ABlock skipping ∷ vs) in (
      tok here (Word first) ∷ tok here (Word word.Skip) ∷ tok here (Word second) ∷ tok here (Word word.Skip)
          ∷ tok here (Word third) ∷ tok here (token.Number 0) ∷ r.0,
      r.1,
      (r.0, skipping, skipping, Number 0 0, branches (skip_block _) (skip_block _) (nought 9 r.0), r.2),
    )
productive (Scope d l ∷ s) vs =
    let r = productive s (AnExpr (Number 0 0) ∷ AVar nothing ∷ ABlock skipping ∷ vs) in (
      tok here (Word word.Skip) ∷ tok here (Word word.Delocal) ∷ tok here (Word word.Int) ∷ tok here (Name [])
          ∷ tok here (Sign sign.Equal) ∷ tok here (token.Number 0) ∷ r.0,
      r.1,
      (r.0, skipping, nothing, Number 0 0, scope (skip_block _) (int_var _) (nought 9 r.0), r.2),
    )
productive (Receiver at back l ∷ s) vs =
    let x = Call at back None (as_name (top vs)) [] in
    let r = productive s (AStatement x ∷ under vs) in
    (tok here (Sign sign.LeftParen) ∷ tok here (Sign sign.RightParen) ∷ r.0, r.1, (r.0, x, own none, r.2))
productive (Args ∷ s) vs = let r = productive s (Idents [] ∷ vs) in
    (tok here (Sign sign.RightParen) ∷ r.0, r.1, (r.0, [], none, r.2))
productive (MoreArgs ∷ s) vs = let r = productive s vs in
    (tok here (Sign sign.RightParen) ∷ r.0, r.1, inl (here, r.0, refl, r.2))
productive (Params ∷ s) vs = let r = productive s (Vars [] ∷ vs) in
    (tok here (Sign sign.RightParen) ∷ r.0, r.1, (r.0, [], no_param, r.2))
productive (Param c ∷ s) vs = let r = productive s (Vars (as_vars (top vs) ++ nothing ∷ []) ∷ under vs) in
    (tok here (Word word.Int) ∷ tok here (Name []) ∷ r.0, r.1, (r.0, nothing, int_var r.0, r.2))
productive (MoreParams c ∷ s) vs = let r = productive s vs in
    (tok here (Sign sign.RightParen) ∷ r.0, r.1, inl (here, r.0, refl, r.2))
productive (Count n ∷ s) vs = productive s vs
productive (Build m ∷ s) vs = productive s (build m vs)
productive (Parent ∷ s) vs = let r = productive s (AParent None ∷ vs) in (r.0, r.1, (r.0, None, alone, r.2))
productive (Fields ∷ s) vs = let r = productive s vs in (r.0, r.1, inl r.2)
productive (Procedures ∷ s) vs = let r = productive s vs in (r.0, r.1, inl r.2)
productive (Program c ∷ s) vs = let r = productive s vs in (r.0, r.1, inl r.2)

-- Marks of statements: one for each, over its cells, apart or nested as the statements are.
use Rattle.std.specs.Prelude.{◌≡◌, ℕ, ◌-◌, ◌<◌, ◌≤◌, ◌⊎◌, Bool, true, ◌&&◌, nat_le, nat_lt, List}
use Rattle.std.specs.Prelude.{[], ◌∷◌, length, take, drop, All}
use Rattle.std.specs.List.{list_any, AllZip}
use Rattle.std.specs.List.Sorted.{IsPermutation}
use Rattle.refine_objects.specs.rpp_tree.Tree.{Statement}
use Rattle.refine_objects.specs.rpp_tree.Places.{statement_place}
use Rattle.branch_codegen.specs.pisa_isa.declared.notes.Mark.{Mark}
use Rattle.branch_codegen.specs.paired_code.declared.part.Symbol.{Symbol}
use Rattle.branch_codegen.specs.paired_code.Code.{Code}
use Rattle.refine_form.specs.Form.{Scope}
use Rattle.statement_codegen.specs.Rows.{Row}

-- the second range lies in the first
abbrev pub LiesIn : Mark → Mark → Type 0
LiesIn k j = (k.first ≤ j.first) × (j.end ≤ k.end)

-- no cell lies in both
abbrev pub LiesApart : Mark → Mark → Type 0
LiesApart k j = (k.end ≤ j.first) ⊎ (j.end ≤ k.first)

-- After each statement come the statements in it, whose ranges are inside its own, and then others,
-- whose ranges are outside.
abbrev pub AreNested : List Row → List Mark → Type 0
AreNested [] [] = Unit {0}
AreNested [] (k ∷ ks) = ⊥
AreNested (r ∷ rs) [] = ⊥
AreNested (r ∷ rs) (k ∷ ks) =
    (r.inside ≤ length ks) × All (LiesIn k) (take r.inside ks)
    × All (LiesApart k) (drop r.inside ks)
    × AreNested rs ks

module _ (Law : Scope → Statement → List Symbol → Type 0) where
  -- a mark has the offset of a statement, and the cells of its range have the statement's law
  pub record IsRange (cells : List Symbol) (r : Row) (k : Mark) : Type 0 where
    pub place : k.at ≡ statement_place r.statement
    pub in_order : k.first ≤ k.end
    pub within : k.end ≤ length cells
    pub law : Law r.scope r.statement (take (k.end - k.first) (drop k.first cells))

  -- the marks of a fragment are one range for each of these statements
  pub record MarksOf (rows : List Row) (p : Code) : Type 0 where
    pub ranges : List Mark
    pub same : IsPermutation p.marks ranges
    pub each : AllZip (IsRange p.cells) rows ranges
    pub nested : AreNested rows ranges

-- whether a cell lies in the range of a mark
abbrev pub holds_cell : ℕ → Mark → Bool
holds_cell i k = nat_le k.first i && nat_lt i k.end

-- or in that of one of these
abbrev pub is_marked : List Mark → ℕ → Bool
is_marked marks i = list_any (holds_cell i) marks

-- each cell lies in a mark's range
abbrev pub IsCovered : Code → Type 0
IsCovered p = (i : ℕ) → i < length p.cells → is_marked p.marks i ≡ true

-- The bytes of tokens that come one after the other.
use Rattle.std.proofs.Common.{◌≡◌, ℕ, List, [], ◌∷◌, ◌++◌, refl, sym, ap, ◌∙◌, append_assoc, codes}
use Rattle.std.specs.List.{flat_map}
use Rattle.std.proofs.lemmas.List.{append-nil}
use Rattle.std.proofs.lemmas.List.Concat.{flat_map-append}
use Rattle.roopl_parser.specs.rpp_tree.Tree.{Statement, ClassText}
use Rattle.roopl_parser.specs.rpp_tree.declared.tree.Stmt.{Stmt}
use Rattle.roopl_parser.specs.rpp_tree.Views.{statement_of}
use Rattle.roopl_printer.specs.Printed.{PrintedToken, with_gap, with_gaps, printed_text, a_name}
use Rattle.roopl_printer.specs.Spelled.{spelled_statement, spelled_parent, spelled_var, spelled_method, spelled_class}

pub with_gaps-append : (xs ys : List PrintedToken) → with_gaps (xs ++ ys) ≡ with_gaps xs ++ with_gaps ys
with_gaps-append xs ys = flat_map-append with_gap xs ys

-- the bytes are those before and the tokens
pub record Adds (before : List ℕ) (tokens : List PrintedToken) (after : List ℕ) : Type 0 where
  pub by : after ≡ before ++ with_gaps tokens

pub adds : {a b : List ℕ} (xs : List PrintedToken) → b ≡ a ++ with_gaps xs → Adds a xs b
adds xs h = record { by = h }

pub adds_one : {a b : List ℕ} (x : PrintedToken) → b ≡ a ++ with_gap x → Adds a (x ∷ []) b
adds_one {a} x h = record { by = h ∙ ap (λ l. a ++ l) (sym (append-nil (with_gap x))) }

pub both : {a b c : List ℕ} {xs ys : List PrintedToken} → Adds a xs b → Adds b ys c → Adds a (xs ++ ys) c
both {a} {xs = xs} {ys = ys} first then = record {
  by = then.by ∙ ap (λ l. l ++ with_gaps ys) first.by ∙ append_assoc a (with_gaps xs) (with_gaps ys)
      ∙ ap (λ l. a ++ l) (sym (with_gaps-append xs ys));
}

-- a statement's tokens are added if those of its plain statement are
pub adds_statement : {a b : List ℕ} {plain : Statement} (s : Stmt) → statement_of s ≡ plain
    → Adds a (spelled_statement plain) b → b ≡ a ++ with_gaps (spelled_statement (statement_of s))
adds_statement {a} s same added = added.by ∙ ap (λ p. a ++ with_gaps (spelled_statement p)) (sym same)

line_by_line : (k g f s : List ℕ) → 10 ∷ f ≡ s ++ 10 ∷ [] → k ++ g ++ 10 ∷ [] ++ f ≡ k ++ (g ++ s) ++ 10 ∷ []
line_by_line k g f s h = simp append_assoc (ap (λ l. k ++ (g ++ l)) h)

-- the tokens of a class after its first word
abbrev class_rest : ClassText → List PrintedToken
class_rest class = a_name class.name ∷ spelled_parent class.parent ++ flat_map spelled_var class.fields
    ++ flat_map spelled_method class.methods

-- a line feed, and the texts of classes, are their tokens with what comes before each, and a line
-- feed
fresh_classes : (classes : List ClassText) → 10 ∷ flat_map (λ class. printed_text (spelled_class class)) classes
    ≡ with_gaps (flat_map spelled_class classes) ++ 10 ∷ []
fresh_classes [] = refl
fresh_classes (class ∷ classes) = ap (λ l. 10 ∷ l)
    (line_by_line (codes "class") (with_gaps (class_rest class)) (flat_map (λ c. printed_text (spelled_class c)) classes)
    (with_gaps (flat_map spelled_class classes)) (fresh_classes classes)
    ∙ ap (λ l. codes "class" ++ l ++ 10 ∷ []) (sym (with_gaps-append (class_rest class)
    (flat_map spelled_class classes))))

pub class_by_class : (classes : List ClassText) → flat_map (λ class. printed_text (spelled_class class)) classes
    ≡ printed_text (flat_map spelled_class classes)
class_by_class [] = refl
class_by_class (class ∷ classes) =
    line_by_line (codes "class") (with_gaps (class_rest class)) (flat_map (λ c. printed_text (spelled_class c)) classes)
    (with_gaps (flat_map spelled_class classes)) (fresh_classes classes)
    ∙ ap (λ l. codes "class" ++ l ++ 10 ∷ []) (sym (with_gaps-append (class_rest class)
    (flat_map spelled_class classes)))

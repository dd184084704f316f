-- The inverse program of an accepted program is accepted, so its names are ASCII.
use Rattle.std.proofs.Common.{◌≡◌, sym, subst}
use Rattle.std.specs.List.{All}
use Rattle.std.specs.Str.{IsAscii}
use Rattle.std.proofs.lemmas.List.Elements.{All-weaker}
use Rattle.roopl_judge.specs.rpp_tree.declared.tree.Ident.{Ident}
use Rattle.rpp_generator.proofs.rpp_words_laws.AsciiNames.{name_bytes_ascii}
use Rattle.roopl_judge.specs.rpp_tree.Names.{IsName}
use Rattle.roopl_judge.specs.rpp_tree.Parts.{source_names}
use Rattle.roopl_judge.specs.rpp_tree.Tree.{Source}
use Rattle.roopl_judge.specs.class_rules.Program.{IsAccepted}
use Rattle.meaning_inverse.specs.inverse_rules.Inverse.{inverse_program}
use Rattle.meaning_inverse.proofs.SameTypes.{inverse_accepted}

name_ascii : (name : Ident) → IsName name.text → IsAscii name.text
name_ascii name named = name_bytes_ascii name.text named.name_bytes

-- the names of what is the inverse of an accepted program
pub inverse_names : (program inverse : Source) → inverse ≡ inverse_program program → IsAccepted program
    → All (λ (name : Ident). IsAscii name.text) (source_names inverse)
inverse_names program inverse is accepted =
    subst (λ tree. All (λ (name : Ident). IsAscii name.text) (source_names tree)) (sym is)
    (All-weaker (λ (name : Ident). IsName name.text) (λ (name : Ident). IsAscii name.text) name_ascii
    (source_names (inverse_program program))
    (inverse_accepted program accepted).limits.names)

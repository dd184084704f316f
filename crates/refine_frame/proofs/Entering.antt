-- The body of `main` begins in a current frame: from the loaded memory, with the two addresses in
-- their registers.
use Rattle.std.proofs.Common.{◌∙◌, ap, refl, ℕ, ◌<◌, List, [], length, arith, length-append}
use Rattle.std.proofs.lemmas.List.{length-replicate}
use Rattle.meaning_sound.specs.rpp_words.declared.input.FieldWord.{FieldWord}
use Rattle.meaning_sound.specs.rpp_words.declared.input.Limits.{Limits}
use Rattle.meaning_sound.specs.rpp_tree.Tree.{Source}
use Rattle.meaning_sound.specs.roopl_semantics.Store.{State, main_name}
use Rattle.meaning_sound.specs.roopl_semantics.Source.{IsValid, main_fields, starting}
use Rattle.meaning_sound.specs.rpp_words.Limits.{IsLimits}
use Rattle.meaning_sound.specs.roopl_semantics.Layout.{HasStatics, main_statics, tables}
use Rattle.meaning_sound.specs.pisa_isa.Image.{Segments}
use Rattle.meaning_sound.specs.Sound.{Stays}
use Rattle.refine_frame.specs.Open.{Setup, IsGrounded}

module _ (program : Source) (image : Segments) (limits : Limits) (input : List FieldWord)
    (has : HasStatics program image) (inside : IsLimits limits) (valid : IsValid program input) where
  abbrev pub setup : Setup
  setup = record { setting = record { program = program; limits = limits }; statics = image.statics }

  pub starting_grounded : IsGrounded setup (starting program input).store
  starting_grounded = record {
    limits = inside;
    room =
        let e = ap length has.words in
        let r = length-replicate {A = ℕ} (length (main_fields program)) 0 in
        omega (arith, length-append (main_statics program) (tables 1 has.places));
    main = refl;
  }

-- the class of the main object stays
pub grounded_on : (u : Setup) (extra : ℕ → ℕ) (st end : State) → Stays u.setting extra st end → 0 < extra main_name
    → IsGrounded u st.store → IsGrounded u end.store
grounded_on u extra st end stays held g = record {
  limits = g.limits;
  room = g.room;
  main = stays.heads_same main_name held ∙ g.main;
}

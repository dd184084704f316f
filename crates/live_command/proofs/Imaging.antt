-- What is done with an image.
use Rattle.std.proofs.Common.{◌≡◌, refl, sym, subst, ℕ, List, None, Ok, Err, inl, inr}
use Rattle.std.specs.Prelude.{Result, Option}
use Rattle.run_settings.specs.rpp_words.declared.input.Limits.{Limits}
use Rattle.run_settings.specs.rpp_ports.declared.sink.SinkFault.{SinkFault}
use Rattle.run_settings.specs.pisa_loader.declared.error.LoadError.{LoadError}
use Rattle.run_settings.specs.pisa_isa.Image.{Segments}
use Rattle.image_commands.specs.pisa_machine.Position.{Position}
use Rattle.live_images.specs.live_talks.Talks.{Talk, TalkPrinted, TalkPuts, status_by}
use Rattle.live_images.specs.live_talks.Sessions.{IsSession}
use Rattle.live_images.specs.live_talks.Limits.{Held, held_run, WithLimits}
use Rattle.live_images.specs.Sessions.{ImageRepliesOf as RepliesAlong}
use Rattle.live_command.specs.Lives.{image_greeting, OpensAlong, OpensImage, StartsImage, SizesImage}
use Rattle.live_command.proofs.Living.{talk_with}

pub along_greets : (p : Held Position) (talk : Talk) (new : TalkPrinted) (after : Talk) (status : ℕ)
    (answer : Result (Unit {0}) SinkFault) → answer ≡ Ok tt → TalkPuts image_greeting answer talk.out new
    → IsSession (WithLimits RepliesAlong) p (talk_with talk new) after status → OpensAlong p talk after status
along_greets p talk new after status answer is puts session = inr (inr (record {
  talk = talk_with talk new;
  greets = record {
    puts = subst (λ (a : Result (Unit {0}) SinkFault). TalkPuts image_greeting a talk.out new) is puts;
    lines = refl;
    heard = refl;
  };
  session = session;
}))

pub along_greets_not : (p : Held Position) (talk : Talk) (new : TalkPrinted) (status : ℕ)
    (answer : Result (Unit {0}) SinkFault) (fault : SinkFault) → answer ≡ Err fault
    → TalkPuts image_greeting answer talk.out new → status ≡ status_by 0 (Err fault)
    → OpensAlong p talk (talk_with talk new) status
along_greets_not p talk new status answer fault is puts status_is = inr (inl (record {
  fault = fault;
  says = record {
    puts = subst (λ (a : Result (Unit {0}) SinkFault). TalkPuts image_greeting a talk.out new) is puts;
    lines = refl;
    heard = refl;
  };
  status_is = status_is;
}))

-- the run is held from where it begins, without a limit
pub machine_opens : (first : Result Position LoadError) (machine : Position) (run : Held Position) (talk after : Talk)
    (status : ℕ) → first ≡ Ok machine → run ≡ held_run machine None → OpensAlong run talk after status
    → OpensImage first talk after status
machine_opens first machine run talk after status is run_is opens =
    subst (λ (r : Result Position LoadError). OpensImage r talk after status) (sym is)
    (subst (λ (h : Held Position). OpensAlong h talk after status) run_is opens)

pub sized : (refusal : Option LoadError) (image : Segments) (limits wanted : Limits) (state : Option (List ℕ))
    (talk after : Talk) (status : ℕ) → refusal ≡ None → limits ≡ wanted
    → StartsImage image limits state talk after status → SizesImage refusal image wanted state talk after status
sized refusal image limits wanted state talk after status none is starts =
    subst (λ (r : Option LoadError). SizesImage r image wanted state talk after status) (sym none)
    (subst (λ (l : Limits). StartsImage image l state talk after status) is starts)

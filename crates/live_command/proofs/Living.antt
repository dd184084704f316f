-- What the words of a session do, by its parts.
use Rattle.std.proofs.Common.{◌≡◌, String, Global, string_bytes, refl, subst, ℕ, List, Some, None}
use Rattle.std.proofs.Common.{Ok, Err, inl, inr}
use Rattle.std.specs.Prelude.{Result}
use Rattle.std.specs.declared.option.Option.{Option}
use Rattle.run_settings.specs.rpp_tree.Views.{source_of}
use Rattle.run_settings.specs.rpp_ports.declared.sink.SinkFault.{SinkFault}
use Rattle.live_session.specs.source_courses.declared.running.TheConstants.{MOST_COST}
use Rattle.live_session.specs.source_debugger.Standing.{Standing}
use Rattle.live_session.specs.source_debugger.Failures.{account_of}
use Rattle.run_settings.specs.Runnable.{RefusesRun, CanRun}
use Rattle.run_settings.specs.Readied.{IsReadied}
use Rattle.run_settings.specs.declared.setting.Ready.{Ready}
use Rattle.run_settings.specs.declared.setting.Ready.TheVariants.{Refused, Runs}
use Rattle.run_settings.specs.declared.setting.RunSetting.{RunSetting}
use Rattle.run_settings.specs.command_plan.Files.{Needed}
use Rattle.run_settings.specs.command_plan.Reads.{Stops, StopsAt}
use Rattle.run_settings.specs.command_plan.Plans.{planned}
use Rattle.run_settings.specs.command_ends.Statuses.{code_of}
use Rattle.run_settings.specs.command_plan.declared.plan.Room.{Room}
use Rattle.run_settings.specs.command_plan.declared.plan.Plan.{Plan}
use Rattle.run_settings.specs.command_plan.declared.plan.NoPlan.{NoPlan}
use Rattle.run_settings.specs.command_plan.declared.plan.NoPlan.TheVariants.{Unread}
use Rattle.plan_serving.specs.Outside.{Shelved}
use Rattle.plan_serving.proofs.Fetched.{some_none}
use Rattle.live_images.specs.live_talks.Talks.{Talk, TalkPrinted, TalkPuts, status_by}
use Rattle.live_images.specs.live_talks.Sessions.{IsSession}
use Rattle.live_images.specs.live_talks.Limits.{held_run as held_at}
use Rattle.live_session.specs.Sessions.{RepliesOf}
use Rattle.live_command.specs.Beginnings.{Opened}
use Rattle.live_command.specs.Lives.{PutsOnce, Prints, greeting, words_refused, OpensRun, Starts, Lives}
use Rattle.live_command.specs.Lives.{session_files}

-- with no line heard
abbrev pub talk_with : Talk → TalkPrinted → Talk
talk_with talk out = record talk { out = out }

pub prints : (text shown : List ℕ) (taken : ℕ) (talk : Talk) (new : TalkPrinted) (status : ℕ) → shown ≡ text
    → PutsOnce shown taken talk.out new status → Prints text taken talk (talk_with talk new) status
prints text shown taken talk new status is p = record {
  answer = p.answer;
  says = record {
    puts = subst (λ (t : List ℕ). TalkPuts t p.answer talk.out new) is p.puts;
    lines = refl;
    heard = refl;
  };
  status_is = p.status_is;
}

-- no memory was found before a file was read
pub lives_not : (it : Option Opened) (rose : Type 0) (shelf : Shelved) (talk : Talk)
    → Lives it rose shelf shelf talk talk 7
lives_not None rose shelf talk = (refl, inl (refl, refl))
lives_not (Some it) rose shelf talk =
    inr (inr (record { reads = some_none (session_files it) shelf.calls; lacks = (refl, refl) }))

pub lives_none : (it : Option Opened) (rose : Type 0) (shelf : Shelved) (before after : Talk) (status : ℕ)
    → None ≡ it → Prints words_refused 1 before after status → Lives it rose shelf shelf before after status
lives_none it rose shelf before after status is h =
    subst (λ (it : Option Opened). Lives it rose shelf shelf before after status) is (refl, inr h)

pub lives_some : (it : Option Opened) (begun : Opened) (rose : Type 0) (shelf shelf' : Shelved) (before after : Talk)
    (status : ℕ) → Some begun ≡ it → Lives (Some begun) rose shelf shelf' before after status
    → Lives it rose shelf shelf' before after status
lives_some it begun rose shelf shelf' before after status is h =
    subst (λ (it : Option Opened). Lives it rose shelf shelf' before after status) is h

pub greets : (d : Standing) (talk : Talk) (new : TalkPrinted) (after : Talk) (status : ℕ)
    (answer : Result (Unit {0}) SinkFault)
    → d.position ≡ 0 → answer ≡ Ok tt → TalkPuts greeting answer talk.out new
    → IsSession (RepliesOf (source_of d.program) (account_of d)) (held_at d.position None) (talk_with talk new) after
    status
    → OpensRun talk after status (source_of d.program) d.limits d.input
greets d talk new after status answer start is puts session = inr (inr (record {
  fuel = MOST_COST;
  talk = talk_with talk new;
  greets = record {
    puts = subst (λ (a : Result (Unit {0}) SinkFault). TalkPuts greeting a talk.out new) is puts;
    lines = refl;
    heard = refl;
  };
  session = subst (λ (j : ℕ). IsSession (RepliesOf (source_of d.program) (account_of d)) (held_at j None)
      (talk_with talk new) after status) start
      session;
}))

pub greets_not : (d : Standing) (talk : Talk) (new : TalkPrinted) (status : ℕ) (answer : Result (Unit {0}) SinkFault)
    (fault : SinkFault) → answer ≡ Err fault → TalkPuts greeting answer talk.out new → status ≡ status_by 0 (Err fault)
    → OpensRun talk (talk_with talk new) status (source_of d.program) d.limits d.input
greets_not d talk new status answer fault is puts status_is = inr (inl (record {
  fault = fault;
  says = record {
    puts = subst (λ (a : Result (Unit {0}) SinkFault). TalkPuts greeting a talk.out new) is puts;
    lines = refl;
    heard = refl;
  };
  status_is = status_is;
}))

pub held : (d start : Standing) (talk after : Talk) (status : ℕ) → d ≡ start
    → OpensRun talk after status (source_of d.program) d.limits d.input
    → OpensRun talk after status (source_of start.program) start.limits start.input
held d start talk after status is opens =
    subst (λ (s : Standing). OpensRun talk after status (source_of s.program) s.limits s.input) is opens

-- ---- the texts

pub refused_starts : (text given text' given' : List ℕ) (room : Room) (talk : Talk) (new : TalkPrinted) (status : ℕ)
    (ready : Ready) (plan : Plan) (shown : List ℕ) (code : ℕ) → text' ≡ text → given' ≡ given
    → IsReadied (RefusesRun text' given' room) (CanRun text' given' room) 0 ready → ready ≡ Refused plan
    → shown ≡ string_bytes plan.text → code ≡ code_of plan.verdict → PutsOnce shown code talk.out new status
    → Starts text given room talk (talk_with talk new) status
refused_starts text given text' given' room talk new status ready plan shown code text_is given_is h is shown_is code_is
    puts =
    let refuses : RefusesRun text' given' room (planned plan) =
    subst (λ (r : Ready). IsReadied (RefusesRun text' given' room) (CanRun text' given' room) 0 r) is h in
    inr (inl (record {
      plan = planned plan;
      refuses = subst (λ (t : List ℕ). RefusesRun t given room (planned plan)) text_is
          (subst (λ (t : List ℕ). RefusesRun text' t room (planned plan)) given_is refuses);
      prints = prints (string_bytes plan.text) shown (code_of plan.verdict) talk new status shown_is
          (subst (λ (n : ℕ). PutsOnce shown n talk.out new status) code_is puts);
    }))

pub runs_start : (text given text' given' : List ℕ) (room : Room) (talk after : Talk) (status : ℕ)
    (ready : Ready) (setting : RunSetting) → text' ≡ text → given' ≡ given
    → IsReadied (RefusesRun text' given' room) (CanRun text' given' room) 0 ready → ready ≡ Runs setting
    → OpensRun talk after status (source_of setting.checked) setting.limits setting.input.words.items
    → Starts text given room talk after status
runs_start text given text' given' room talk after status ready setting text_is given_is h is opens =
    let runs : IsReadied (RefusesRun text' given' room) (CanRun text' given' room) 0 (Runs setting) =
    subst (λ (r : Ready). IsReadied (RefusesRun text' given' room) (CanRun text' given' room) 0 r) is h in
    inr (inr (record {
      program = source_of setting.checked;
      limits = setting.limits;
      input = setting.input.words.items;
      can_run = subst (λ (t : List ℕ). CanRun t given room (source_of setting.checked) setting.limits
          setting.input.words.items) text_is
          (subst (λ (t : List ℕ). CanRun text' t room (source_of setting.checked) setting.limits
          setting.input.words.items) given_is runs.0);
      run = opens;
    }))

-- ---- the files

pub unread_lives : (it : Opened) (files : List Needed) (rose : Type 0) (shelf shelf' : Shelved) (talk : Talk)
    (new : TalkPrinted) (status : ℕ) (why : NoPlan) (text : String Global) (shown : List ℕ) → files ≡ session_files it
    → Stops shelf.texts files rose shelf.calls shelf'.calls why → why ≡ Unread text
    → shown ≡ string_bytes text → PutsOnce shown 2 talk.out new status
    → Lives (Some it) rose shelf shelf' talk (talk_with talk new) status
unread_lives it files rose shelf shelf' talk new status why text shown files_is h is shown_is puts = inr (inl (record {
  line = string_bytes text;
  stops = subst (λ (f : List Needed). StopsAt shelf.texts f rose (string_bytes text) shelf.calls shelf'.calls) files_is
      (subst (λ (w : NoPlan). Stops shelf.texts files rose shelf.calls shelf'.calls w) is h);
  prints = prints (string_bytes text) shown 2 talk new status shown_is puts;
}))

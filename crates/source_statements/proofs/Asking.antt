-- Requests to the heap that are undone.
use Rattle.std.proofs.Common.{◌≡◌, refl, ap, ◌∙◌, true, false}
use Rattle.source_blocks.specs.rpp_tree.Tree.{Statement, Statements, Update, Swap, If, From, Construct, Local, New, Delete, Copy}
use Rattle.source_blocks.specs.rpp_tree.Tree.{Uncopy, Call, Skip}
use Rattle.source_blocks.specs.roopl_semantics.Run.{Run as Run', ◌>>=◌, give}
use Rattle.source_blocks.specs.roopl_semantics.Execution.{Setting}
use Rattle.source_blocks.specs.meaning_machine.Machine.{Config, past_it, begun}
use Rattle.source_blocks.specs.source_steps.StateView.{setting_of}
use Rattle.source_blocks.specs.declared.run.Run.{Run}
use Rattle.source_blocks.specs.Requests.{is_request, taken_back}
use Rattle.source_statements.specs.Steps.{begun_in}
use Rattle.source_blocks.specs.Runs.{config_of, state_in, here_in, rest_in}

module _ (setting : Setting) (x : Config) where
  begun_taken : (s : Statement) (rest : Statements) → is_request s ≡ true
      → begun_in true setting x s rest ≡ taken_back setting s x.state >>= (λ st. give (past_it x s rest st))
  begun_taken (Update at op target value) rest e = cc
  begun_taken (Swap at left right) rest e = cc
  begun_taken (If at test taken other after) rest e = cc
  begun_taken (From at entry first again exit) rest e = cc
  begun_taken (Construct at class name body end) rest e = cc
  begun_taken (Local at var value body end_var end_value) rest e = cc
  begun_taken (New at made target) rest e = refl
  begun_taken (Delete at made target) rest e = refl
  begun_taken (Copy at kind source target) rest e = cc
  begun_taken (Uncopy at kind source target) rest e = cc
  begun_taken (Call at back receiver method args) rest e = cc
  begun_taken (Skip at) rest e = cc

  pub begun_other : (s : Statement) (rest : Statements) → is_request s ≡ false
      → begun setting x s rest ≡ begun_in true setting x s rest
  begun_other (Update at op target value) rest e = refl
  begun_other (Swap at left right) rest e = refl
  begun_other (If at test taken other after) rest e = refl
  begun_other (From at entry first again exit) rest e = refl
  begun_other (Construct at class name body end) rest e = refl
  begun_other (Local at var value body end_var end_value) rest e = refl
  begun_other (New at made target) rest e = cc
  begun_other (Delete at made target) rest e = cc
  begun_other (Copy at kind source target) rest e = refl
  begun_other (Uncopy at kind source target) rest e = refl
  begun_other (Call at back receiver method args) rest e = refl
  begun_other (Skip at) rest e = refl

module _ (old : Run) (t : Statement) (here : here_in old ≡ t) (asks : is_request t ≡ true) where
  pub request_is : begun_in true (setting_of old.setting) (config_of old) (here_in old) (rest_in old)
      ≡ taken_back (setting_of old.setting) t (state_in old)
      >>= (λ st. give (past_it (config_of old) (here_in old) (rest_in old) st))
  request_is =
      let ran : Statement → Run' Config = λ (s : Statement). taken_back (setting_of old.setting) s (state_in old)
      >>= (λ st. give (past_it (config_of old) (here_in old) (rest_in old) st)) in
      begun_taken (setting_of old.setting) (config_of old) (here_in old) (rest_in old) (ap is_request here ∙ asks)
      ∙ ap ran here

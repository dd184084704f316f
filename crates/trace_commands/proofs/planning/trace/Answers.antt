use Rattle.trace_commands.proofs.planning.trace.Goals as goal

pub returns-clause-plan : goal.returns-clause-plan
returns-clause-plan g c = record {
  text = c.in_ok-read.read.text.items;
  is_text = c.in_ok-read.ensures.text;
  within = c.in_ok-read.ensures.within;
  holds = record {
    text = c.in_ok-read.read.script.items;
    is_text = c.in_ok-read.ensures.script;
    within = c.in_ok-read.ensures.within_script;
    holds = record {
      text = c.in_ok-read.read.given.items;
      is_text = c.in_ok-read.ensures.input;
      within = c.in_ok-read.ensures.within_input;
      holds = c.in_ok-trace_text.ensures;
    };
  };
}

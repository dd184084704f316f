-- The steps of reading that take no token, for the search.
use Rattle.std.proofs.lemmas.List.{map-append}
use Rattle.roopl_lexer.proofs.rpp_tree_laws.Blocks.{block_of-made}
use Rattle.roopl_parser.proofs.Moves.{run_build, run_count, run_spot, run_index_end, run_brackets_end, run_sized_end}
use Rattle.roopl_parser.proofs.Moves.{run_block, run_stmts, run_stmts_end, run_branches, run_scope, run_fields}
use Rattle.roopl_parser.proofs.Moves.{run_fields_end, run_parent, run_parent_end, run_procedures, run_procedures_end}
use Rattle.roopl_parser.proofs.Moves.{run_program, run_program_over, run_program_end}
use Rattle.roopl_parser.proofs.MoreMoves.{run_brackets, run_sized, run_params, run_params_end, run_param}
use Rattle.roopl_parser.proofs.MoreMoves.{run_param_over, run_param_wrong, run_swap}
use Rattle.roopl_lexer.proofs.rpp_tree_laws.Statements.{statement_update, statement_swap, statement_if, statement_from}
use Rattle.roopl_lexer.proofs.rpp_tree_laws.Statements.{statement_construct, statement_local, statement_new, statement_delete}
use Rattle.roopl_lexer.proofs.rpp_tree_laws.Statements.{statement_copy, statement_uncopy, statement_call, statement_skip}

pub ruleset kind_moves = (run_build, run_spot, run_brackets, run_brackets_end, run_sized, run_sized_end)

pub ruleset name_moves = (run_build)

pub ruleset param_moves = (run_build, run_params, run_params_end, run_param, run_param_over, run_param_wrong)

pub ruleset simple_moves = (
  run_build,
  run_count,
  run_spot,
  run_index_end,
  run_swap,
  statement_update,
  statement_swap,
  statement_new,
  statement_delete,
  statement_copy,
  statement_uncopy,
  statement_call,
)

pub ruleset statement_moves = (
  run_build,
  run_count,
  run_block,
  run_stmts,
  run_stmts_end,
  run_branches,
  run_scope,
  statement_if,
  statement_from,
  statement_construct,
  statement_local,
  statement_skip,
  block_of-made,
)

pub ruleset class_moves = (
  run_build,
  run_parent,
  run_parent_end,
  run_fields,
  run_fields_end,
  run_procedures,
  run_procedures_end,
  run_program,
  run_program_over,
  run_program_end,
  map-append,
)

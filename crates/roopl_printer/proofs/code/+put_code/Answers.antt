-- Each arm writes the tokens of its statement, one part after the other.
use Rattle.std.proofs.Common.{[], ◌∷◌, ◌++◌, append_assoc, refl, ap, ◌∙◌}
use Rattle.std.proofs.lemmas.Result.{IfOk-equal}
use Rattle.std.proofs.lemmas.List.Concat.{flat_map-append}
use Rattle.roopl_parser.specs.rpp_tree.Views.{expression_of, lvalue_of, optional_lvalue_of, statement_of, block_of}
use Rattle.roopl_parser.specs.roopl_lexer.declared.token.Keyword.TheVariants as word
use Rattle.roopl_printer.specs.Printed.{a_name, a_word}
use Rattle.roopl_printer.specs.Spelled.{first_word, call_word, spelled_expression, spelled_block, spelled_binding}
use Rattle.roopl_printer.specs.Spelled.{spelled_type, spelled_place, spelled_target}
use Rattle.roopl_printer.proofs.Gaps.{adds, adds_one, both, adds_statement}
use Rattle.roopl_parser.proofs.rpp_tree_laws.Statements.{statement_update, statement_swap, statement_if, statement_from}
use Rattle.roopl_parser.proofs.rpp_tree_laws.Statements.{statement_construct, statement_local, statement_new, statement_delete}
use Rattle.roopl_parser.proofs.rpp_tree_laws.Statements.{statement_copy, statement_uncopy, statement_call}
use Rattle.roopl_printer.proofs.code.+put_code.Goals as goal

pub put_stmt-returns-in_ok-put-in-Update : goal.put_stmt-returns-in_ok-put-in-Update
put_stmt-returns-in_ok-put-in-Update t c =
    IfOk-equal _ _ _ _ c.put_expr-in-Update.ensures
    (rw (
      c.in_ok-put-in-Update.ensures,
      c.in_ok-put_first_place-in-Update.ensures,
      c.update_sign.ensures,
      c.in-Update.is,
      statement_update,
    ) (simp (append_assoc, flat_map-append)))

pub put_stmt-returns-in_ok-put-in-Swap : goal.put_stmt-returns-in_ok-put-in-Swap
put_stmt-returns-in_ok-put-in-Swap t c =
    IfOk-equal _ _ _ _ c.put_place.ensures
    (rw (c.in_ok-put-in-Swap.ensures, c.in_ok-put_first_place-in-Swap.ensures, c.in-Swap.is, statement_swap)
    (simp (append_assoc, flat_map-append)))

pub put_stmt-returns-in_ok-put-in-New : goal.put_stmt-returns-in_ok-put-in-New
put_stmt-returns-in_ok-put-in-New t c =
    IfOk-equal _ _ _ _ c.put_made_at.ensures
    (rw (c.in_ok-put-in-New.ensures, c.in-New.is, statement_new) (simp (append_assoc, flat_map-append)))

pub put_stmt-returns-in_ok-put-in-Delete : goal.put_stmt-returns-in_ok-put-in-Delete
put_stmt-returns-in_ok-put-in-Delete t c =
    IfOk-equal _ _ _ _ c.put_made_at-in-Delete.ensures
    (rw (c.in_ok-put-in-Delete.ensures, c.in-Delete.is, statement_delete) (simp (append_assoc, flat_map-append)))

pub put_stmt-returns-in_ok-put-in-If-4 : goal.put_stmt-returns-in_ok-put-in-If-4
put_stmt-returns-in_ok-put-in-If-4 t c =
    IfOk-equal _ _ _ _ c.put_expr-in-If.ensures
    (adds_statement c.args.s.now (ap statement_of c.in-If.is
    ∙ statement_if c.in-If.at c.in-If.test c.in-If.yes c.in-If.no c.in-If.after)
    (both (both (both (both (adds (first_word word.If ∷ []) c.in_ok-put-in-If.ensures)
    (adds (spelled_expression (expression_of c.in-If.test)) c.in_ok-put_expr-in-If.ensures))
    (both (adds (a_word word.Then ∷ []) c.in_ok-put-in-If-2.ensures)
    (adds (spelled_block (block_of c.in-If.yes)) c.in_ok-put_block-in-If.ensures)))
    (both (adds (a_word word.Else ∷ []) c.in_ok-put-in-If-3.ensures)
    (adds (spelled_block (block_of c.in-If.no)) c.in_ok-put_block-in-If-2.ensures)))
    (both (adds (a_word word.Fi ∷ []) c.in_ok-put-in-If-4.ensures)
    (adds (spelled_expression (expression_of c.in-If.after)) refl))))

pub put_stmt-returns-in_ok-put-in-From-4 : goal.put_stmt-returns-in_ok-put-in-From-4
put_stmt-returns-in_ok-put-in-From-4 t c =
    IfOk-equal _ _ _ _ c.put_expr-in-From-2.ensures
    (adds_statement c.args.s.now (ap statement_of c.in-From.is
    ∙ statement_from c.in-From.at c.in-From.entry c.in-From.first c.in-From.again c.in-From.until)
    (both (both (both (both (adds (first_word word.From ∷ []) c.in_ok-put-in-From.ensures)
    (adds (spelled_expression (expression_of c.in-From.entry)) c.in_ok-put_expr-in-From.ensures))
    (both (adds (a_word word.Do ∷ []) c.in_ok-put-in-From-2.ensures)
    (adds (spelled_block (block_of c.in-From.first)) c.in_ok-put_block-in-From.ensures)))
    (both (adds (a_word word.Loop ∷ []) c.in_ok-put-in-From-3.ensures)
    (adds (spelled_block (block_of c.in-From.again)) c.in_ok-put_block-in-From-2.ensures)))
    (both (adds (a_word word.Until ∷ []) c.in_ok-put-in-From-4.ensures)
    (adds (spelled_expression (expression_of c.in-From.until)) refl))))

pub put_stmt-returns-in_ok-put-in-Construct-2 : goal.put_stmt-returns-in_ok-put-in-Construct-2
put_stmt-returns-in_ok-put-in-Construct-2 t c =
    IfOk-equal _ _ _ _ c.put_name-in-Construct-2.ensures
    (adds_statement c.args.s.now (ap statement_of c.in-Construct.is
    ∙ statement_construct c.in-Construct.at c.in-Construct.class c.in-Construct.name c.in-Construct.body
    c.in-Construct.end)
    (both (both (both (both (adds (first_word word.Construct ∷ []) c.in_ok-put-in-Construct.ensures)
    (adds_one (a_name c.in-Construct.class) c.in_ok-put_name-in-Construct.ensures))
    (adds_one (a_name c.in-Construct.name) c.in_ok-put_name-in-Construct-2.ensures))
    (adds (spelled_block (block_of c.in-Construct.body)) c.in_ok-put_block-in-Construct.ensures))
    (both (adds (a_word word.Destruct ∷ []) c.in_ok-put-in-Construct-2.ensures)
    (adds_one (a_name c.in-Construct.end) refl))))

pub put_stmt-returns-in_ok-put-in-Local-2 : goal.put_stmt-returns-in_ok-put-in-Local-2
put_stmt-returns-in_ok-put-in-Local-2 t c =
    IfOk-equal _ _ _ _ c.put_binding-in-Local.ensures
    (adds_statement c.args.s.now (ap statement_of c.in-Local.is
    ∙ statement_local c.in-Local.at c.in-Local.var c.in-Local.value c.in-Local.body c.in-Local.end_var
    c.in-Local.end_value)
    (both (both (both (adds (first_word word.Local ∷ []) c.in_ok-put-in-Local.ensures)
    (adds (spelled_binding c.in-Local.var (expression_of c.in-Local.value))
    c.in_ok-put_binding-in-Local.ensures)) (adds (spelled_block (block_of c.in-Local.body))
    c.in_ok-put_block-in-Local.ensures)) (both (adds (a_word word.Delocal ∷ [])
    c.in_ok-put-in-Local-2.ensures) (adds (spelled_binding c.in-Local.end_var
    (expression_of c.in-Local.end_value)) refl))))

pub put_stmt-returns-in_ok-put-in-Copy : goal.put_stmt-returns-in_ok-put-in-Copy
put_stmt-returns-in_ok-put-in-Copy t c =
    IfOk-equal _ _ _ _ c.put_copied.ensures
    (adds_statement c.args.s.now (ap statement_of c.in-Copy.is
    ∙ statement_copy c.in-Copy.at c.in-Copy.kind c.in-Copy.source c.in-Copy.target)
    (both (adds (first_word word.Copy ∷ []) c.in_ok-put-in-Copy.ensures)
    (adds (spelled_type c.in-Copy.kind ++ spelled_place (lvalue_of c.in-Copy.source)
    ++ spelled_place (lvalue_of c.in-Copy.target)) refl)))

pub put_stmt-returns-in_ok-put-in-Uncopy : goal.put_stmt-returns-in_ok-put-in-Uncopy
put_stmt-returns-in_ok-put-in-Uncopy t c =
    IfOk-equal _ _ _ _ c.put_copied-in-Uncopy.ensures
    (adds_statement c.args.s.now (ap statement_of c.in-Uncopy.is
    ∙ statement_uncopy c.in-Uncopy.at c.in-Uncopy.kind c.in-Uncopy.source c.in-Uncopy.target)
    (both (adds (first_word word.Uncopy ∷ []) c.in_ok-put-in-Uncopy.ensures)
    (adds (spelled_type c.in-Uncopy.kind ++ spelled_place (lvalue_of c.in-Uncopy.source)
    ++ spelled_place (lvalue_of c.in-Uncopy.target)) refl)))

pub put_stmt-returns-in_ok-put-in-Call : goal.put_stmt-returns-in_ok-put-in-Call
put_stmt-returns-in_ok-put-in-Call t c =
    IfOk-equal _ _ _ _ c.put_target.ensures
    (rw c.deref.ensures.value (adds_statement c.args.s.now
    (ap statement_of c.in-Call.is ∙ statement_call c.in-Call.at c.in-Call.back c.in-Call.receiver c.in-Call.method
    c.in-Call.args)
    (both (adds_one (first_word (call_word c.in-Call.back)) (rw c.call_word.ensures at c.in_ok-put-in-Call.ensures))
    (adds (spelled_target (optional_lvalue_of c.in-Call.receiver) c.in-Call.method c.in-Call.args.items) refl))))

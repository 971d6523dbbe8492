use Rattle.std.proofs.Common.{sym, subst, Err}
use Rattle.std.proofs.lemmas.Str.{is_utf8-from_IsUtf8}
use Rattle.module_compile.specs.Compiling.{Compiles}
use Rattle.module_compile.proofs.CompileLaws.{tree_compiles, text_unread}
use Rattle.module_compile.proofs.compile.compile_text.Goals as goal

pub returns-in-Ok : goal.returns-in-Ok
returns-in-Ok c =
    tree_compiles c.args.text.now c.in-Ok.modules c.compile_tree.result
    (record {
      utf8 = is_utf8-from_IsUtf8 c.args.text.now c.utf8.text;
      has = c.in-Ok.ensures.found;
      only = λ m h. sym (c.in-Ok.ensures.only m h);
    }) c.compile_tree.ensures

pub returns-in-Err : goal.returns-in-Err
returns-in-Err c =
    subst (λ e. Compiles c.args.text.now (Err e)) (sym c.unread.ensures)
    (text_unread c.args.text.now c.in-Err.fault (is_utf8-from_IsUtf8 c.args.text.now c.utf8.text) c.in-Err.ensures.fault c.in-Err.ensures.by_rule c.in-Err.ensures.only)

-- Lines of bodies, tests, emissions and async sites are read as they are written, and nothing else is.
use Rattle.std.proofs.Common.{◌≡◌, ℕ, Bool, List, [], ◌++◌, Option, Some, None, refl}
use Rattle.std.proofs.Common.{sym, ap, ◌∙◌, append_assoc}
use Rattle.std.specs.Prelude.{decimal}
use Rattle.std.proofs.lemmas.List.{append-nil}
use Rattle.hh_base.specs.declared.value.Kind.{Kind}
use Rattle.host_expr.specs.declared.expr.Expr.{Expr}
use Rattle.hh_term.specs.declared.program.BodyDecl.{BodyDecl}
use Rattle.net_list.specs.declared.record.Sent.{Sent}
use Rattle.net_list.specs.declared.record.NetTest.{NetTest}
use Rattle.net_list.specs.declared.record.NetEmit.{NetEmit}
use Rattle.net_list.specs.declared.record.NetExec.{NetExec}
use Rattle.net_text.specs.Lines.{body_line, body_word, written, written_if_there, from_version_2, place}
use Rattle.net_text.specs.Lines.{test_line}
use Rattle.net_text.specs.Lines.{sent_parts, emit_line, handlers, exec_line}
use Rattle.net_text.specs.Parts.{spaced, line_end as line_feed_alone, number as written_number, kind_part}
use Rattle.net_text.specs.Parts.{counted as written_counted, number_or_nothing, text_or_nothing}
use Rattle.net_line.specs.Formed.{IsHandlerForm}
use Rattle.net_line.specs.Literals.{handler_of}
use Rattle.net_line.specs.Reading.{Ends, part_as}
use Rattle.net_line.proofs.Chain.{ReadsAll, Anything, in_turn, made, reads_same}
use Rattle.net_line.proofs.Gates.{reads_number}
use Rattle.net_line.proofs.Parts.{reads_part, reads_word, reads_end}
use Rattle.net_line.proofs.Words.{kinds, kind_part as kind_is_part, handlers as handler_words, handler_part}
use Rattle.record_line.specs.RecordForm.{version_of}
use Rattle.record_line.specs.RecordForm.{IsBodyForm, IsTestForm, IsEmitForm}
use Rattle.record_line.specs.RecordForm.{IsExecForm}
use Rattle.record_line.specs.RecordReading.{at, body_row, test_row, emit_row, exec_of, exec_row}
use Rattle.record_line.proofs.Parts.{in_turn_under, reads_first, reads_later, later_ends, written_ends}
use Rattle.record_line.proofs.Parts.{reads_line_expression, is_there, reads_expression_if, if_there_ends}
use Rattle.record_line.proofs.Parts.{reads_kinds, any_kinds, reads_expressions, reads_body_name, head_word}
use Rattle.record_line.proofs.Parts.{heads}
use Rattle.record_line.proofs.Parts.{head_plain, reads_number_or_none, reads_sent, sent_ends}

-- ---- bodies

head_is : (o : Option (Expr ℕ)) → head_word (is_there o) ≡ body_word o
head_is (Some e) = refl
head_is None = refl

seven : (a b c d e f g : List ℕ) → a ++ (b ++ (c ++ (d ++ (e ++ (f ++ (g ++ [])))))) ≡
    a ++ b ++ c ++ d ++ e ++ f ++ g
seven a b c d e f g = simp (append_assoc, append-nil) refl

body_parts : (b : BodyDecl)
    → head_word (is_there b.expr) ++
    (spaced b.name ++ (kind_part b.answer ++ (written_counted kind_part b.params
    ++ (written_if_there b.expr ++ (written_number b.pos.0 ++ (line_feed_alone ++ [])))))) ≡ body_line b
body_parts b =
    seven (head_word (is_there b.expr)) (spaced b.name) (kind_part b.answer)
    (written_counted kind_part b.params)
    (written_if_there b.expr) (written_number b.pos.0) line_feed_alone
    ∙ ap (λ w. w ++ spaced b.name ++ kind_part b.answer ++ written_counted kind_part b.params
    ++ written_if_there b.expr ++ written_number b.pos.0 ++ line_feed_alone) (head_is b.expr)

pub reads_body : ReadsAll Anything body_row body_line IsBodyForm
reads_body =
    reads_same {S = BodyDecl} body_parts
    (λ b f. (tt, (f.name, (tt, ((f.params, any_kinds b.params), (f.expr, (f.pos, (tt, tt))))))))
    (λ b f. record {
      name = f.1.0;
      params = f.1.1.1.0.0;
      expr = f.1.1.1.1.0;
      pos = f.1.1.1.1.1.0;
    })
    (in_turn {A = Bool} {S = BodyDecl} (λ b. is_there b.expr) (reads_word heads head_plain)
    (λ b f c e. refl) (λ h.
    in_turn {A = List ℕ} {S = BodyDecl} (λ b. b.name) reads_body_name (λ b f c e. refl) (λ n.
    in_turn {A = Kind} {S = BodyDecl} (λ b. b.answer) (reads_part kinds kind_is_part) (λ b f c e. refl) (λ k.
    in_turn {A = List Kind} {S = BodyDecl} (λ b. b.params) reads_kinds
    (λ b f c e. if_there_ends b.expr (written_number b.pos.0 ++ (line_feed_alone ++ [])) c refl) (λ ks.
    in_turn_under {A = Option (Expr ℕ)} {S = BodyDecl} (λ b. b.expr) (reads_expression_if h) (λ b p. p.0.0.0.1)
    (λ b f c e. refl) (λ e q.
    in_turn {A = ℕ} {S = BodyDecl} (λ b. b.pos.0) reads_number (λ b f c e. refl) (λ p.
    in_turn {A = Unit {0}} {S = BodyDecl} (λ b. tt) reads_end (λ b f c e. tt) (λ u.
    made {S = BodyDecl} (record { name = n; params = ks; answer = k; expr = e; pos = at p })
    (((((((tt, q), refl), refl), refl), refl), refl), refl)
    (λ b g. λ i. record {
      name = sym g.0.0.0.0.0.1 i;
      params = sym g.0.0.0.1 i;
      answer = sym g.0.0.0.0.1 i;
      expr = sym g.0.0.1 i;
      pos = record { 0 = sym g.0.1 i };
    })))))))))

-- ---- tests

four : (a b c d : List ℕ) → a ++ (b ++ (c ++ (d ++ []))) ≡ a ++ (b ++ c) ++ d
four a b c d = simp (append_assoc, append-nil) refl

pub reads_test : (later : Bool) →
    ReadsAll Anything (test_row later) (test_line (version_of later)) (IsTestForm later)
reads_test later =
    reads_same {S = NetTest}
    (λ t. four (decimal t.control) (written t.expr) (place (version_of later) t.pos) line_feed_alone)
    (λ t f. (f.control, (f.expr, (f.pos, (tt, tt)))))
    (λ t f. record { control = f.0; expr = f.1.0; pos = f.1.1.0 })
    (in_turn {A = ℕ} {S = NetTest} (λ t. t.control) reads_first
    (λ t f c e. written_ends t.expr (place (version_of later) t.pos ++ (line_feed_alone ++ [])) c) (λ n.
    in_turn {A = Expr ℕ} {S = NetTest} (λ t. t.expr) reads_line_expression
    (λ t f c e. later_ends later t.pos.0 (line_feed_alone ++ []) c refl) (λ x.
    in_turn {A = ℕ} {S = NetTest} (λ t. t.pos.0) (reads_later later) (λ t f c e. refl) (λ p.
    in_turn {A = Unit {0}} {S = NetTest} (λ t. tt) reads_end (λ t f c e. tt) (λ u.
    made {S = NetTest} (record { control = n; expr = x; pos = at p }) ((((tt, refl), refl), refl), refl)
    (λ t g. λ i. record {
      control = sym g.0.0.0.1 i;
      expr = sym g.0.0.1 i;
      pos = record { 0 = sym g.0.1 i };
    }))))))

-- ---- emissions

five : (a b c d e : List ℕ) → a ++ (b ++ (c ++ (d ++ (e ++ [])))) ≡ a ++ (b ++ c ++ d) ++ e
five a b c d e = simp (append_assoc, append-nil) refl

pub reads_emit : (later : Bool) →
    ReadsAll Anything (emit_row later) (emit_line (version_of later)) (IsEmitForm later)
reads_emit later =
    reads_same {S = NetEmit}
    (λ t. five (decimal t.control) (written_number t.signal) (sent_parts t.sent)
    (place (version_of later) t.pos)
    line_feed_alone)
    (λ t f. (f.control, (f.signal, (f.sent, (f.pos, (tt, tt))))))
    (λ t f. record { control = f.0; signal = f.1.0; sent = f.1.1.0; pos = f.1.1.1.0 })
    (in_turn {A = ℕ} {S = NetEmit} (λ t. t.control) reads_first (λ t f c e. refl) (λ n.
    in_turn {A = ℕ} {S = NetEmit} (λ t. t.signal) reads_number
    (λ t f c e. sent_ends t.sent (place (version_of later) t.pos ++ (line_feed_alone ++ [])) c) (λ s.
    in_turn {A = Sent} {S = NetEmit} (λ t. t.sent) reads_sent
    (λ t f c e. later_ends later t.pos.0 (line_feed_alone ++ []) c refl) (λ v.
    in_turn {A = ℕ} {S = NetEmit} (λ t. t.pos.0) (reads_later later) (λ t f c e. refl) (λ p.
    in_turn {A = Unit {0}} {S = NetEmit} (λ t. tt) reads_end (λ t f c e. tt) (λ u.
    made {S = NetEmit} (record { control = n; signal = s; sent = v; pos = at p })
    (((((tt, refl), refl), refl), refl), refl)
    (λ t g. λ i. record {
      control = sym g.0.0.0.0.1 i;
      signal = sym g.0.0.0.1 i;
      sent = sym g.0.0.1 i;
      pos = record { 0 = sym g.0.1 i };
    })))))))

-- ---- async sites

fifteen : (a b c d e f g h i j k l m n o : List ℕ)
    → a ++ (b ++ (c ++ (d ++ (e ++ (f ++ (g ++ (h ++ (i ++ (j ++ (k ++ (l ++ (m ++ (n ++ (o ++ []))))))))))))))
    ≡ a ++ (b ++ (c ++ d ++ e ++ f ++ g ++ h ++ i) ++ (j ++ k ++ l) ++ m ++ n) ++ o
fifteen a b c d e f g h i j k l m n o = simp (append_assoc, append-nil) refl

exec_is : (later : Bool) (x : NetExec) → decimal x.site.body
    ++ (spaced (number_or_nothing x.site.signal) ++ (written_number x.go ++ (written_number x.reg
    ++ (written_number x.end ++ (from_version_2 (version_of later) (written_number x.used)
    ++ (written_number x.held ++ (written_number x.resumed ++ (written_number x.next
    ++ (spaced (text_or_nothing x.site.kill) ++ (spaced (text_or_nothing x.site.suspend)
    ++ (spaced (text_or_nothing x.site.resume) ++ (written_counted written x.site.args
    ++ (place (version_of later) x.pos ++ (line_feed_alone ++ []))))))))))))))
    ≡ exec_line (version_of later) x
exec_is later x =
    fifteen (decimal x.site.body) (spaced (number_or_nothing x.site.signal)) (written_number x.go)
    (written_number x.reg) (written_number x.end) (from_version_2 (version_of later) (written_number x.used))
    (written_number x.held) (written_number x.resumed) (written_number x.next)
    (spaced (text_or_nothing x.site.kill)) (spaced (text_or_nothing x.site.suspend))
    (spaced (text_or_nothing x.site.resume)) (written_counted written x.site.args)
    (place (version_of later) x.pos)
    line_feed_alone

reads_handler : ReadsAll Ends (part_as handler_of) (λ o. spaced (text_or_nothing o)) IsHandlerForm
reads_handler = reads_part handler_words handler_part

pub reads_exec : (later : Bool) →
    ReadsAll Anything (exec_row later) (exec_line (version_of later)) (IsExecForm later)
reads_exec later =
    reads_same {S = NetExec} (exec_is later)
    (λ x f. (
      f.body,
      (
        f.signal,
        (
          f.gates.go,
          (
            f.gates.reg,
            (
              f.gates.end,
              (
                f.gates.used,
                (
                  f.gates.held,
                  (
                    f.gates.resumed,
                    (
                      f.gates.next,
                      (
                        f.handlers.kill,
                        (
                          f.handlers.suspend,
                          (
                            f.handlers.resume,
                            ((f.count, f.args), (f.pos, (tt, tt))),
                          ),
                        ),
                      ),
                    ),
                  ),
                ),
              ),
            ),
          ),
        ),
      ),
    ))
    (λ x f. record {
      body = f.0;
      signal = f.1.0;
      gates = record {
        go = f.1.1.0;
        reg = f.1.1.1.0;
        end = f.1.1.1.1.0;
        used = f.1.1.1.1.1.0;
        held = f.1.1.1.1.1.1.0;
        resumed = f.1.1.1.1.1.1.1.0;
        next = f.1.1.1.1.1.1.1.1.0;
      };
      handlers = record {
        kill = f.1.1.1.1.1.1.1.1.1.0;
        suspend = f.1.1.1.1.1.1.1.1.1.1.0;
        resume = f.1.1.1.1.1.1.1.1.1.1.1.0;
      };
      count = f.1.1.1.1.1.1.1.1.1.1.1.1.0.0;
      args = f.1.1.1.1.1.1.1.1.1.1.1.1.0.1;
      pos = f.1.1.1.1.1.1.1.1.1.1.1.1.1.0;
    })
    (in_turn {A = ℕ} {S = NetExec} (λ x. x.site.body) reads_first (λ x f c e. refl) (λ body.
    in_turn {A = Option ℕ} {S = NetExec} (λ x. x.site.signal) reads_number_or_none (λ x f c e. refl) (λ signal.
    in_turn {A = ℕ} {S = NetExec} (λ x. x.go) reads_number (λ x f c e. refl) (λ go.
    in_turn {A = ℕ} {S = NetExec} (λ x. x.reg) reads_number (λ x f c e. refl) (λ reg.
    in_turn {A = ℕ} {S = NetExec} (λ x. x.end) reads_number
    (λ x f c e. later_ends later x.used (behind_used x) c refl) (λ end.
    in_turn {A = ℕ} {S = NetExec} (λ x. x.used) (reads_later later) (λ x f c e. refl) (λ used.
    in_turn {A = ℕ} {S = NetExec} (λ x. x.held) reads_number (λ x f c e. refl) (λ held.
    in_turn {A = ℕ} {S = NetExec} (λ x. x.resumed) reads_number (λ x f c e. refl) (λ resumed.
    in_turn {A = ℕ} {S = NetExec} (λ x. x.next) reads_number (λ x f c e. refl) (λ next.
    in_turn {A = Option (List ℕ)} {S = NetExec} (λ x. x.site.kill) reads_handler (λ x f c e. refl) (λ kill.
    in_turn {A = Option (List ℕ)} {S = NetExec} (λ x. x.site.suspend) reads_handler
    (λ x f c e. refl) (λ suspend.
    in_turn {A = Option (List ℕ)} {S = NetExec} (λ x. x.site.resume) reads_handler (λ x f c e. refl) (λ resume.
    in_turn {A = List (Expr ℕ)} {S = NetExec} (λ x. x.site.args) reads_expressions
    (λ x f c e. later_ends later x.pos.0 (line_feed_alone ++ []) c refl) (λ args.
    in_turn {A = ℕ} {S = NetExec} (λ x. x.pos.0) (reads_later later) (λ x f c e. refl) (λ p.
    in_turn {A = Unit {0}} {S = NetExec} (λ x. tt) reads_end (λ x f c e. tt) (λ u.
    made {S = NetExec}
    (exec_of body signal go reg end used held resumed next kill suspend resume args p) (
      (
        (
          ((((((((((((tt, refl), refl), refl), refl), refl), refl), refl), refl), refl), refl), refl), refl),
          refl,
        ),
        refl,
      ),
      refl,
    )
    (λ x g. λ i. exec_of (sym g.0.0.0.0.0.0.0.0.0.0.0.0.0.0.1 i) (sym g.0.0.0.0.0.0.0.0.0.0.0.0.0.1 i)
    (sym g.0.0.0.0.0.0.0.0.0.0.0.0.1 i) (sym g.0.0.0.0.0.0.0.0.0.0.0.1 i) (sym g.0.0.0.0.0.0.0.0.0.0.1 i)
    (sym g.0.0.0.0.0.0.0.0.0.1 i) (sym g.0.0.0.0.0.0.0.0.1 i) (sym g.0.0.0.0.0.0.0.1 i)
    (sym g.0.0.0.0.0.0.1 i) (sym g.0.0.0.0.0.1 i) (sym g.0.0.0.0.1 i) (sym g.0.0.0.1 i) (sym g.0.0.1 i)
    (sym g.0.1 i))))))))))))))))))
  where
    behind_used : NetExec → List ℕ
    behind_used x =
        written_number x.held ++ (written_number x.resumed ++ (written_number x.next
        ++ (spaced (text_or_nothing x.site.kill) ++ (spaced (text_or_nothing x.site.suspend)
        ++ (spaced (text_or_nothing x.site.resume) ++ (written_counted written x.site.args
        ++ (place (version_of later) x.pos ++ (line_feed_alone ++ []))))))))

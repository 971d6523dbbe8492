-- The first fault of each part of a text is that of its rows, over all kinds.
use Rattle.std.proofs.Common.{◌≡◌, ℕ, ◌==◌, ◌&&◌, ◌||◌, Bool, true, false, cond, Option, Some, None, List, []}
use Rattle.std.proofs.Common.{◌∷◌, ◌++◌, length, map, refl, sym, ◌∙◌, ap, arith, not, suc}
use Rattle.std.specs.Prelude.{option_map, is_some, is_none, filter}
use Rattle.std.specs.List.{flat_map}
use Rattle.std.proofs.Math.Path.{fun_ext}
use Rattle.std.proofs.lemmas.List.{append-nil}
use Rattle.hh_base.specs.declared.value.Pos.{Pos}
use Rattle.hh_base.specs.declared.value.Kind.{Kind}
use Rattle.hh_base.specs.declared.value.Kind.TheVariants as kind
use Rattle.module_tree.specs.declared.source.NameAt.{NameAt}
use Rattle.module_tree.specs.declared.source.ExprAt.{ExprAt}
use Rattle.module_tree.specs.declared.source.SignalNode.{SignalNode}
use Rattle.module_tree.specs.declared.source.Binding.{Binding}
use Rattle.module_tree.specs.declared.source.AsyncNode.{AsyncNode}
use Rattle.module_tree.specs.declared.source.ModuleNode.{ModuleNode}
use Rattle.module_tree.specs.Scopes.{Signal, InScope}
use Rattle.module_tree.specs.Parts.{StatementPart, Test, Times, Emission, Locals, Exit, Call, Start}
use Rattle.module_tree.specs.Parts.{signals_read, parameters_read, if_any}
use Rattle.module_tree.specs.Callables.{Signature}
use Rattle.module_tree.specs.LinkedFacts.{is_input}
use Rattle.link_faults.specs.declared.fault.LinkKind.{LinkKind}
use Rattle.link_faults.specs.declared.fault.LinkKind.TheVariants as fault
use Rattle.link_faults.specs.declared.fault.LinkFault.{LinkFault}
use Rattle.link_faults.specs.declared.names.Meaning.{Meaning}
use Rattle.link_faults.specs.Faults.{earlier}
use Rattle.link_faults.specs.Earliest.{first_at, first_by}
use Rattle.link_faults.specs.Named.{Name, signal_named, trap_named, module_named, signature_named}
use Rattle.link_faults.specs.Named.{interface_named, is_named}
use Rattle.link_faults.specs.SourceKinds.{Kinds, misfits_in, wrong_for, wrong_value}
use Rattle.link_faults.specs.Judgements.{first_unknown, unknown_at}
use Rattle.link_faults.specs.Meanings.{meaning, meant_in}
use Rattle.link_faults.specs.PartFaults.{kinds_by, first_read, first_emitted, first_carried}
use Rattle.link_faults.specs.RunFaults.{first_arguments, first_answered, first_called}
use Rattle.link_faults.specs.RunFaults.{means_input, means_emitted, kinds_differ, first_bound, first_implied}
use Rattle.link_faults.specs.RunFaults.{left_name, first_bindings, first_unbound, first_in_run}
use Rattle.link_faults.specs.CallableTables.{callable}
use Rattle.link_faults.specs.Rows.{Program, here_if, unknown_among, no_kinds, kinds_in, repeated_in_statement}
use Rattle.link_faults.specs.Rows.{unknown_in_statement, called, broken_out, started, wrong_in_statement}
use Rattle.link_faults.specs.Rows.{wrong_emission, wrong_arguments, wrong_result, wrong_start, wrong_signal}
use Rattle.link_faults.specs.Rows.{emits, in_run, emitted_by_callee, badly_bound, bad_left, is_in, is_emitted}
use Rattle.link_faults.specs.Rows.{differ, unbound, repeated, repeated_behind, name_of_signal}
use Rattle.link_faults.specs.Walks.{first_of_part}
use Rattle.link_faults.proofs.EarlierLaws.{earlier_none, earlier_turned, earlier_grouped, earlier_paired}
use Rattle.link_faults.proofs.EarlierLaws.{first_at_joined, first_by_joined, first_by_both, first_at_each}
use Rattle.link_faults.proofs.EarlierLaws.{before_itself}
use Rattle.link_faults.proofs.VerdictLaw.{Table, all_kinds}

abbrev Fault : Type 0
Fault = Option LinkFault

-- ---- names that mean nothing

pub unknown_first : (known : Name → Bool) (kinds : Kinds) → ((n : Name) → known n ≡ is_some (kinds n))
    → (ns : List (NameAt Name)) → first_at fault.UnknownSignal (unknown_among known ns) ≡ first_unknown kinds ns
unknown_first known kinds e [] = refl
unknown_first known kinds e (n ∷ ns) =
    ap (λ b. first_at fault.UnknownSignal (map (λ (m : NameAt Name). m.pos) (cond (not b) (n ∷ rest) rest)))
    (e n.name) ∙ by (kinds n.name) ∙ ap (earlier (unknown_at n.pos (kinds n.name))) (unknown_first known kinds e ns)
  where
    rest : List (NameAt Name)
    rest = filter (λ (m : NameAt Name). not (known m.name)) ns

    by : (o : Option Kind)
        → first_at fault.UnknownSignal (map (λ (m : NameAt Name). m.pos) (cond (not (is_some o)) (n ∷ rest) rest))
        ≡ earlier (unknown_at n.pos o) (first_at fault.UnknownSignal (map (λ (m : NameAt Name). m.pos) rest))
    by None = refl
    by (Some k) = refl

-- the kinds of what is meant in scope are those of the signals in scope
same_kinds : (scope : InScope) → kinds_by (meant_in scope) ≡ kinds_in scope
same_kinds scope = fun_ext (λ n. by (signal_named scope n))
  where
    by : (o : Option Signal) → option_map (λ (m : Meaning). m.kind) (option_map meaning o)
        ≡ option_map (λ (s : Signal). s.signal.kind) o
    by None = refl
    by (Some s) = refl

known_in_scope : (scope : InScope) (n : Name) → is_some (signal_named scope n) ≡ is_some (kinds_in scope n)
known_in_scope scope n = by (signal_named scope n)
  where
    by : (o : Option Signal) → is_some o ≡ is_some (option_map (λ (s : Signal). s.signal.kind) o)
    by None = refl
    by (Some s) = refl

-- the names of signals and of parameters that mean nothing
unknown_both : (scope : InScope) (ns ps : List (NameAt Name)) → first_at fault.UnknownSignal
    (unknown_among (λ n. is_some (signal_named scope n)) ns ++ unknown_among (λ n. false) ps)
    ≡ earlier (first_unknown (kinds_in scope) ns) (first_unknown no_kinds ps)
unknown_both scope ns ps = first_at_joined fault.UnknownSignal
    (unknown_among (λ n. is_some (signal_named scope n)) ns) (unknown_among (λ n. false) ps)
    ∙ ap (λ o. earlier o (first_at fault.UnknownSignal (unknown_among (λ n. false) ps)))
    (unknown_first (λ n. is_some (signal_named scope n)) (kinds_in scope) (known_in_scope scope) ns)
    ∙ ap (earlier (first_unknown (kinds_in scope) ns)) (unknown_first (λ n. false) no_kinds (λ n. refl) ps)

-- ---- emissions

unknown_or_input : (n : NameAt Name) (o : Option Signal) → first_emitted n (option_map meaning o)
    ≡ earlier (unknown_at n.pos (option_map (λ (s : Signal). s.signal.kind) o))
    (first_at fault.EmitsInput (here_if (is_in o) n.pos))
unknown_or_input n None = refl
unknown_or_input n (Some s) = refl

abbrev first_reads : Kinds → List (ExprAt Name) → Fault
first_reads s xs = earlier (first_unknown s (flat_map (λ (x : ExprAt Name). signals_read x.expr) xs))
    (first_unknown no_kinds (flat_map (λ (x : ExprAt Name). parameters_read x.expr) xs))

reads_joined : (s : Kinds) (x : ExprAt Name) (xs : List (ExprAt Name))
    → first_reads s (x ∷ xs) ≡ earlier (first_read s no_kinds x) (first_reads s xs)
reads_joined s x xs =
    let ns = signals_read x.expr in
    let ps = parameters_read x.expr in
    let ms = flat_map (λ (x : ExprAt Name). signals_read x.expr) xs in
    let qs = flat_map (λ (x : ExprAt Name). parameters_read x.expr) xs in
    ap (λ o. earlier o (first_unknown no_kinds (ps ++ qs)))
    (first_by_joined (λ (n : NameAt Name). unknown_at n.pos (s n.name)) ns ms)
    ∙ ap (earlier (earlier (first_unknown s ns) (first_unknown s ms)))
    (first_by_joined (λ (n : NameAt Name). unknown_at n.pos (no_kinds n.name)) ps qs)
    ∙ earlier_paired (first_unknown s ns) (first_unknown s ms) (first_unknown no_kinds ps)
    (first_unknown no_kinds qs)

reads_of_one : (s : Kinds) (x : ExprAt Name) → first_reads s (x ∷ []) ≡ first_read s no_kinds x
reads_of_one s x = reads_joined s x [] ∙ earlier_none (first_read s no_kinds x)

carried_first : (s : Kinds) (n : NameAt Name) (k : Option Kind) (value : Option (ExprAt Name))
    → first_carried s no_kinds n k value ≡ earlier (first_reads s (if_any value))
    (first_at fault.KindWrong (wrong_emission s n k value))
carried_first s n None None = refl
carried_first s n None (Some x) = ap (λ o. earlier o (first_at fault.KindWrong (misfits_in s no_kinds x)))
    (sym (reads_of_one s x))
carried_first s n (Some kind.Pure) None = refl
carried_first s n (Some kind.Pure) (Some x) =
    ap (λ o. earlier o (first_at fault.KindWrong (wrong_value (misfits_in s no_kinds x) x.pos)))
    (sym (reads_of_one s x))
carried_first s n (Some kind.Int) None = refl
carried_first s n (Some kind.Bool) None = refl
carried_first s n (Some kind.Text) None = refl
carried_first s n (Some kind.Int) (Some x) =
    ap (λ o. earlier o (first_at fault.KindWrong (wrong_for s no_kinds kind.Int x))) (sym (reads_of_one s x))
carried_first s n (Some kind.Bool) (Some x) =
    ap (λ o. earlier o (first_at fault.KindWrong (wrong_for s no_kinds kind.Bool x))) (sym (reads_of_one s x))
carried_first s n (Some kind.Text) (Some x) =
    ap (λ o. earlier o (first_at fault.KindWrong (wrong_for s no_kinds kind.Text x))) (sym (reads_of_one s x))

-- the names that a part names, where it names these and reads those
unknown_of : (scope : InScope) (ns : List (NameAt Name)) (xs : List (ExprAt Name))
    → first_at fault.UnknownSignal
    (unknown_among (λ n. is_some (signal_named scope n))
    (ns ++ flat_map (λ (x : ExprAt Name). signals_read x.expr) xs)
    ++ unknown_among (λ n. false) (flat_map (λ (x : ExprAt Name). parameters_read x.expr) xs))
    ≡ earlier (first_unknown (kinds_in scope) ns) (first_reads (kinds_in scope) xs)
unknown_of scope ns xs =
    let s = kinds_in scope in
    let ms = flat_map (λ (x : ExprAt Name). signals_read x.expr) xs in
    let ps = flat_map (λ (x : ExprAt Name). parameters_read x.expr) xs in
    unknown_both scope (ns ++ ms) ps
    ∙ ap (λ o. earlier o (first_unknown no_kinds ps))
    (first_by_joined (λ (n : NameAt Name). unknown_at n.pos (s n.name)) ns ms)
    ∙ earlier_grouped (first_unknown s ns) (first_unknown s ms) (first_unknown no_kinds ps)

-- ---- the rows of a part

abbrev pub statement_rows : Program → InScope → StatementPart Name → Table
statement_rows parts scope part fault.TwiceDeclared = repeated_in_statement scope part
statement_rows parts scope part fault.UnknownSignal = unknown_in_statement scope part
statement_rows parts scope part fault.UnknownModule =
    unknown_among (λ n. is_some (module_named parts n)) (called part)
statement_rows parts scope part fault.UnknownTrap =
    unknown_among (λ n. is_some (trap_named scope n)) (broken_out part)
statement_rows parts scope part fault.UnknownBody =
    unknown_among (λ n. is_some (signature_named parts n)) (started part)
statement_rows parts scope part fault.KindWrong = wrong_in_statement parts scope part
statement_rows parts scope part fault.EmitsInput =
    flat_map (λ (n : NameAt Name). here_if (is_in (signal_named scope n.name)) n.pos) (emits part)
    ++ in_run (emitted_by_callee scope) parts part
statement_rows parts scope part fault.BadBinding = in_run (badly_bound scope) parts part
statement_rows parts scope part fault.RunCycle = []

abbrev pub first_over : Table → Option LinkFault
first_over rows = first_by (λ k. first_at k (rows k)) all_kinds

-- four faults, the last of which comes second
last_second : (a b c d : Fault) → earlier (earlier a b) (earlier c d) ≡ earlier (earlier a c) (earlier d b)
last_second a b c d = earlier_paired a b c d ∙ ap (earlier (earlier a c)) (earlier_turned b d)

emission_rows : (parts : Program) (scope : InScope) (n : NameAt Name) (value : Option (ExprAt Name))
    → first_of_part parts scope (Emission n value) ≡ first_over (statement_rows parts scope (Emission n value))
emission_rows parts scope n value =
    let s = kinds_in scope in
    let u = first_unknown s (n ∷ []) in
    let o = signal_named scope n.name in
    let i = first_at fault.EmitsInput (here_if (is_in o) n.pos) in
    let r = first_reads s (if_any value) in
    let w = first_at fault.KindWrong (wrong_emission s n (s n.name) value) in
    ap (λ (t : Kinds). earlier (first_emitted n (meant_in scope n.name))
    (first_carried t no_kinds n (t n.name) value)) (same_kinds scope)
    ∙ ap (λ m. earlier m (first_carried s no_kinds n (s n.name) value)) (unknown_or_input n o)
    ∙ ap (earlier (earlier (unknown_at n.pos (s n.name)) i)) (carried_first s n (s n.name) value)
    ∙ ap (λ m. earlier (earlier m i) (earlier r w)) (sym (earlier_none (unknown_at n.pos (s n.name))))
    ∙ last_second u i r w
    ∙ ap (λ m. earlier m (earlier w i)) (sym (unknown_of scope (n ∷ []) (if_any value)))
    ∙ ap (λ m. earlier (first_at fault.UnknownSignal (unknown_in_statement scope (Emission n value)))
    (earlier w m)) (padded (is_in o))
  where
    padded : (b : Bool) → first_at fault.EmitsInput (here_if b n.pos)
        ≡ earlier (first_at fault.EmitsInput (here_if b n.pos ++ [] ++ [])) None
    padded true = refl
    padded false = refl

test_rows : (parts : Program) (scope : InScope) (x : ExprAt Name)
    → first_of_part parts scope (Test x) ≡ first_over (statement_rows parts scope (Test x))
test_rows parts scope x =
    let s = kinds_in scope in
    let w = first_at fault.KindWrong (wrong_for s no_kinds kind.Bool x) in
    ap (λ (t : Kinds). earlier (first_read t no_kinds x) (first_at fault.KindWrong
    (wrong_for t no_kinds kind.Bool x))) (same_kinds scope)
    ∙ ap (λ m. earlier m w) (sym (reads_of_one s x) ∙ sym (unknown_of scope [] (x ∷ [])))
    ∙ ap (earlier (first_at fault.UnknownSignal (unknown_in_statement scope (Test x)))) (sym (earlier_none w))

-- ---- `signal` lists and traps

locals_rows : (parts : Program) (scope : InScope) (signals : List SignalNode)
    → first_of_part parts scope (Locals signals) ≡ first_over (statement_rows parts scope (Locals signals))
locals_rows parts scope signals =
    ap (earlier (first_at fault.TwiceDeclared (repeated (map name_of_signal signals))))
    (sym (first_at_each fault.KindWrong wrong_signal signals)
    ∙ sym (earlier_none (first_at fault.KindWrong (flat_map wrong_signal signals))))

exit_rows : (parts : Program) (scope : InScope) (trap : NameAt Name)
    → first_of_part parts scope (Exit trap) ≡ first_over (statement_rows parts scope (Exit trap))
exit_rows parts scope trap = sym (earlier_none (first_at fault.UnknownTrap
    (unknown_among (λ n. is_some (trap_named scope n)) (trap ∷ []))))

-- ---- `async`

abbrev one_at : LinkKind → Pos → Fault
one_at k p = Some (record { pos = p; kind = k })

abbrev miscounted : ℕ → ℕ → Pos → Fault
miscounted m n p = first_at fault.KindWrong (here_if (not (m == n)) p)

-- three faults, the first of which comes second
first_second : (a b c : Fault) → earlier a (earlier b c) ≡ earlier b (earlier a c)
first_second a b c = sym (earlier_grouped a b c) ∙ ap (λ o. earlier o c) (earlier_turned a b)
    ∙ earlier_grouped b a c

unjudged : (s : Kinds) (xs : List (ExprAt Name)) → first_arguments s no_kinds [] xs
    ≡ earlier (first_reads s xs) (first_at fault.KindWrong (flat_map (misfits_in s no_kinds) xs))
unjudged s [] = refl
unjudged s (x ∷ xs) =
    let m = first_at fault.KindWrong (misfits_in s no_kinds x) in
    let ms = first_at fault.KindWrong (flat_map (misfits_in s no_kinds) xs) in
    ap (earlier (earlier (first_read s no_kinds x) m)) (unjudged s xs)
    ∙ earlier_paired (first_read s no_kinds x) m (first_reads s xs) ms
    ∙ ap (λ o. earlier o (earlier m ms)) (sym (reads_joined s x xs))
    ∙ ap (earlier (first_reads s (x ∷ xs))) (sym (first_at_joined fault.KindWrong
    (misfits_in s no_kinds x) (flat_map (misfits_in s no_kinds) xs)))

miscounts : (m n : ℕ) (p : Pos) → (m == n) ≡ false → miscounted m n p ≡ one_at fault.KindWrong p
miscounts m n p e = ap (λ b. first_at fault.KindWrong (here_if (not b) p)) e

both_more : (m n : ℕ) → (suc m == suc n) ≡ (m == n)
both_more m n = grind arith

counted : (s : Kinds) (p : Pos) (ks : List Kind) (xs : List (ExprAt Name))
    → earlier (miscounted (length ks) (length xs) p) (first_arguments s no_kinds ks xs)
    ≡ earlier (first_reads s xs) (first_at fault.KindWrong (wrong_arguments s p ks xs))
counted s p [] [] = refl
counted s p (k ∷ ks) [] = ap (λ o. earlier o None) (miscounts (suc (length ks)) 0 p (grind arith))
counted s p [] (x ∷ xs) =
    ap (λ o. earlier o (first_arguments s no_kinds [] (x ∷ xs)))
    (miscounts 0 (suc (length xs)) p (grind arith))
    ∙ ap (earlier (one_at fault.KindWrong p)) (unjudged s (x ∷ xs))
    ∙ first_second (one_at fault.KindWrong p) (first_reads s (x ∷ xs))
    (first_at fault.KindWrong (flat_map (misfits_in s no_kinds) (x ∷ xs)))
counted s p (k ∷ ks) (x ∷ xs) =
    let c = miscounted (length ks) (length xs) p in
    let w = first_at fault.KindWrong (wrong_for s no_kinds k x) in
    let ws = first_at fault.KindWrong (wrong_arguments s p ks xs) in
    let r = first_read s no_kinds x in
    ap (λ b. earlier (first_at fault.KindWrong (here_if (not b) p)) (earlier (earlier r w)
    (first_arguments s no_kinds ks xs))) (both_more (length ks) (length xs))
    ∙ first_second c (earlier r w) (first_arguments s no_kinds ks xs)
    ∙ ap (earlier (earlier r w)) (counted s p ks xs)
    ∙ earlier_paired r w (first_reads s xs) ws
    ∙ ap (λ o. earlier o (earlier w ws)) (sym (reads_joined s x xs))
    ∙ ap (earlier (first_reads s (x ∷ xs))) (sym (first_at_joined fault.KindWrong (wrong_for s no_kinds k x)
    (wrong_arguments s p ks xs)))

-- what a start judges of its arguments and result, where its body's name means this
abbrev unknown_body_at : AsyncNode Name → Option Signature → Fault
unknown_body_at a None = one_at fault.UnknownBody a.body.pos
unknown_body_at a (Some c) = None

called_first : (s : Kinds) (a : AsyncNode Name) (c : Option Signature)
    → first_called s no_kinds a (option_map callable c) ≡ earlier (unknown_body_at a c)
    (earlier (first_reads s a.args) (first_at fault.KindWrong (wrong_start s a c)))
called_first s a None = ap (earlier (one_at fault.UnknownBody a.body.pos)) (unjudged s a.args)
called_first s a (Some c) =
    let m = miscounted (length c.parameters) (length a.args) a.body.pos in
    let xs = first_arguments s no_kinds c.parameters a.args in
    let w = first_at fault.KindWrong (wrong_arguments s a.body.pos c.parameters a.args) in
    let r = first_at fault.KindWrong (wrong_result s c.answer a.signal) in
    sym (earlier_grouped m xs r) ∙ ap (λ o. earlier o r) (counted s a.body.pos c.parameters a.args)
    ∙ earlier_grouped (first_reads s a.args) w r
    ∙ ap (earlier (first_reads s a.args)) (sym (first_at_joined fault.KindWrong
    (wrong_arguments s a.body.pos c.parameters a.args) (wrong_result s c.answer a.signal)))

answered_first : (scope : InScope) (n : Option (NameAt Name)) → first_answered (meant_in scope) n
    ≡ earlier (first_unknown (kinds_in scope) (if_any n)) (first_at fault.EmitsInput
    (flat_map (λ (m : NameAt Name). here_if (is_in (signal_named scope m.name)) m.pos) (if_any n)))
answered_first scope None = refl
answered_first scope (Some n) =
    let o = signal_named scope n.name in
    let u = unknown_at n.pos (kinds_in scope n.name) in
    unknown_or_input n o
    ∙ ap (λ m. earlier m (first_at fault.EmitsInput (here_if (is_in o) n.pos))) (sym (earlier_none u))
    ∙ ap (earlier (earlier u None)) (by (is_in o))
  where
    by : (b : Bool) → first_at fault.EmitsInput (here_if b n.pos) ≡ first_at fault.EmitsInput (here_if b n.pos ++ [])
    by true = refl
    by false = refl

start_rows : (parts : Program) (scope : InScope) (a : AsyncNode Name)
    → first_of_part parts scope (Start a) ≡ first_over (statement_rows parts scope (Start a))
start_rows parts scope a =
    let s = kinds_in scope in
    let c = signature_named parts a.body.name in
    let u = first_unknown s (if_any a.signal) in
    let r = first_reads s a.args in
    let b = unknown_body_at a c in
    let w = first_at fault.KindWrong (wrong_start s a c) in
    ap (λ (t : Kinds). earlier (first_answered (meant_in scope) a.signal) (first_called t no_kinds a
    (option_map callable c))) (same_kinds scope)
    ∙ ap (λ o. earlier o (first_called s no_kinds a (option_map callable c))) (answered_first scope a.signal)
    ∙ ap (earlier (earlier u (input a.signal))) (called_first s a c ∙ first_second b r w)
    ∙ earlier_paired u (input a.signal) r (earlier b w)
    ∙ ap (earlier (earlier u r)) (earlier_turned (input a.signal) (earlier b w)
    ∙ earlier_grouped b w (input a.signal))
    ∙ ap (λ o. earlier o (earlier b (earlier w (input a.signal)))) (sym (unknown_of scope (if_any a.signal) a.args))
    ∙ ap (λ o. earlier (first_at fault.UnknownSignal (unknown_in_statement scope (Start a)))
    (earlier o (earlier w (input a.signal)))) (body c)
    ∙ ap (λ o. earlier (first_at fault.UnknownSignal (unknown_in_statement scope (Start a)))
    (earlier (first_at fault.UnknownBody (unknown_among (λ n. is_some (signature_named parts n)) (a.body ∷ [])))
    (earlier w o))) (inputs a.signal)
  where
    input : Option (NameAt Name) → Fault
    input n = first_at fault.EmitsInput
        (flat_map (λ (m : NameAt Name). here_if (is_in (signal_named scope m.name)) m.pos) (if_any n))

    body : (c : Option Signature) → unknown_body_at a c ≡ first_at fault.UnknownBody
        (map (λ (n : NameAt Name). n.pos) (cond (not (is_some c)) (a.body ∷ []) []))
    body None = refl
    body (Some c) = refl

    inputs : (n : Option (NameAt Name)) → input n ≡ earlier (first_at fault.EmitsInput
        (flat_map (λ (m : NameAt Name). here_if (is_in (signal_named scope m.name)) m.pos) (if_any n) ++ [])) None
    inputs n = ap (first_at fault.EmitsInput) (sym (append-nil
        (flat_map (λ (m : NameAt Name). here_if (is_in (signal_named scope m.name)) m.pos) (if_any n))))
        ∙ sym (earlier_none (first_at fault.EmitsInput
        (flat_map (λ (m : NameAt Name). here_if (is_in (signal_named scope m.name)) m.pos) (if_any n) ++ [])))

-- ---- `run`

earlier_same : (a : Fault) → earlier a a ≡ a
earlier_same None = refl
earlier_same (Some a) = ap (λ b. Some (cond b a a)) (before_itself a)

-- what is wrong for one or the other of two reasons
first_or : (k : LinkKind) (a b : Bool) (p : Pos) → first_at k (here_if (a || b) p)
    ≡ earlier (first_at k (here_if a p)) (first_at k (here_if b p))
first_or k true true p = sym (earlier_same (one_at k p))
first_or k true false p = refl
first_or k false b p = refl

reason_second : (k : LinkKind) (a b c : Bool) (p : Pos) → first_at k (here_if ((a || b) || c) p)
    ≡ earlier (first_at k (here_if b p)) (first_at k (here_if (a || c) p))
reason_second k a b c p =
    let fault = λ (t : Bool). first_at k (here_if t p) in
    first_or k (a || b) c p ∙ ap (λ o. earlier o (fault c)) (first_or k a b p ∙ earlier_turned (fault a) (fault b))
    ∙ earlier_grouped (fault b) (fault a) (fault c) ∙ ap (earlier (fault b)) (sym (first_or k a c p))

means_in : (o : Option Signal) → means_input (option_map meaning o) ≡ is_in o
means_in None = refl
means_in (Some s) = refl

means_out : (o : Option Signal) → means_emitted (option_map meaning o) ≡ is_emitted o
means_out None = refl
means_out (Some s) = refl

no_meaning : (o : Option Signal) → is_none (option_map meaning o) ≡ is_none o
no_meaning None = refl
no_meaning (Some s) = refl

means_other : (o p : Option Signal) → kinds_differ (option_map meaning o) (option_map meaning p) ≡ differ o p
means_other None p = refl
means_other (Some s) None = refl
means_other (Some s) (Some t) = refl

module _ (scope : InScope) (m : ModuleNode Name) where
  abbrev left : Binding Name → Option Signal
  left b = interface_named m.interface b.left.name

  abbrev right : Binding Name → Option Signal
  right b = signal_named scope b.right.name

  abbrev emits_bound : Binding Name → List Pos
  emits_bound b = here_if (is_emitted (left b) && is_in (right b)) b.right.pos

  abbrev bad_bound : Binding Name → Fault
  bad_bound b = first_at fault.BadBinding (here_if (is_none (left b) || differ (left b) (right b)) b.left.pos)

  bound_first : (b : Binding Name) → first_bound (option_map meaning (left b)) (meant_in scope b.right.name) b
      ≡ earlier (first_at fault.EmitsInput (emits_bound b)) (bad_bound b)
  bound_first b =
      let bad = first_at fault.BadBinding (here_if (is_none (option_map meaning (left b))
      || kinds_differ (option_map meaning (left b)) (option_map meaning (right b))) b.left.pos) in
      ap (λ t. earlier (first_at fault.EmitsInput (here_if (t && means_input (option_map meaning (right b)))
      b.right.pos)) bad) (means_out (left b))
      ∙ ap (λ t. earlier (first_at fault.EmitsInput (here_if (is_emitted (left b) && t) b.right.pos)) bad)
      (means_in (right b))
      ∙ ap (λ t. earlier (first_at fault.EmitsInput (emits_bound b)) (first_at fault.BadBinding
      (here_if (t || kinds_differ (option_map meaning (left b)) (option_map meaning (right b))) b.left.pos)))
      (no_meaning (left b))
      ∙ ap (λ t. earlier (first_at fault.EmitsInput (emits_bound b)) (first_at fault.BadBinding
      (here_if (is_none (left b) || t) b.left.pos))) (means_other (left b) (right b))

  bad_lefts : (before : List Name) (bs : List (Binding Name)) → first_at fault.BadBinding (bad_left scope m before bs)
      ≡ earlier (first_at fault.BadBinding (repeated_behind before (map left_name bs))) (first_by bad_bound bs)
  bad_lefts before [] = refl
  bad_lefts before (b ∷ bs) =
      let again = is_named before b.left.name in
      let more = first_at fault.BadBinding (repeated_behind (b.left.name ∷ before) (map left_name bs)) in
      first_at_joined fault.BadBinding (here_if ((is_none (left b) || again) || differ (left b) (right b)) b.left.pos)
      (bad_left scope m (b.left.name ∷ before) bs)
      ∙ ap (λ o. earlier o (first_at fault.BadBinding (bad_left scope m (b.left.name ∷ before) bs)))
      (reason_second fault.BadBinding (is_none (left b)) again (differ (left b) (right b)) b.left.pos)
      ∙ ap (earlier (earlier (first_at fault.BadBinding (here_if again b.left.pos)) (bad_bound b)))
      (bad_lefts (b.left.name ∷ before) bs)
      ∙ earlier_paired (first_at fault.BadBinding (here_if again b.left.pos)) (bad_bound b) more (first_by bad_bound bs)
      ∙ ap (λ o. earlier o (earlier (bad_bound b) (first_by bad_bound bs)))
      (sym (first_at_joined fault.BadBinding (here_if again b.left.pos)
      (repeated_behind (b.left.name ∷ before) (map left_name bs))))

  bindings_first : (bs : List (Binding Name)) → first_bindings (meant_in scope) bs m.interface
      ≡ earlier (first_at fault.EmitsInput (flat_map emits_bound bs)) (first_by bad_bound bs)
  bindings_first bs = alike bs
      ∙ first_by_both (λ b. first_at fault.EmitsInput (emits_bound b)) bad_bound bs
      ∙ ap (λ o. earlier o (first_by bad_bound bs)) (sym (first_at_each fault.EmitsInput emits_bound bs))
    where
      alike : (bs : List (Binding Name)) → first_bindings (meant_in scope) bs m.interface
          ≡ first_by (λ b. earlier (first_at fault.EmitsInput (emits_bound b)) (bad_bound b)) bs
      alike [] = refl
      alike (b ∷ bs) = ap (λ o. earlier o (first_bindings (meant_in scope) bs m.interface)) (bound_first b)
          ∙ ap (earlier (earlier (first_at fault.EmitsInput (emits_bound b)) (bad_bound b))) (alike bs)

  -- the signals that are not bound
  abbrev emits_implied : Pos → Signal → List Pos
  emits_implied p s = here_if (not (is_input s.dir) && is_in (signal_named scope s.signal.name)) p

  abbrev bad_implied : Pos → Signal → List Pos
  bad_implied p s = here_if (is_none (signal_named scope s.signal.name)
      || differ (Some s) (signal_named scope s.signal.name)) p

  implied_first : (p : Pos) (s : Signal) → first_implied p (meaning s) (meant_in scope s.signal.name)
      ≡ earlier (first_at fault.EmitsInput (emits_implied p s)) (first_at fault.BadBinding (bad_implied p s))
  implied_first p s = by (signal_named scope s.signal.name)
    where
      by : (o : Option Signal) → first_implied p (meaning s) (option_map meaning o)
          ≡ earlier (first_at fault.EmitsInput (here_if (not (is_input s.dir) && is_in o) p))
          (first_at fault.BadBinding (here_if (is_none o || differ (Some s) o) p))
      by None = refl
      by (Some t) = refl

  all_implied : (p : Pos) (ss : List Signal)
      → first_by (λ (s : Signal). first_implied p (meaning s) (meant_in scope s.signal.name)) ss
      ≡ earlier (first_at fault.EmitsInput (flat_map (emits_implied p) ss))
      (first_at fault.BadBinding (flat_map (bad_implied p) ss))
  all_implied p [] = refl
  all_implied p (s ∷ ss) =
      let i = first_at fault.EmitsInput (emits_implied p s) in
      let b = first_at fault.BadBinding (bad_implied p s) in
      let is = first_at fault.EmitsInput (flat_map (emits_implied p) ss) in
      let bs = first_at fault.BadBinding (flat_map (bad_implied p) ss) in
      ap (λ o. earlier o (first_by (λ (s : Signal). first_implied p (meaning s) (meant_in scope s.signal.name)) ss))
      (implied_first p s) ∙ ap (earlier (earlier i b)) (all_implied p ss) ∙ earlier_paired i b is bs
      ∙ ap (λ o. earlier o (earlier b bs)) (sym (first_at_joined fault.EmitsInput (emits_implied p s)
      (flat_map (emits_implied p) ss)))
      ∙ ap (earlier (first_at fault.EmitsInput (flat_map (emits_implied p) (s ∷ ss))))
      (sym (first_at_joined fault.BadBinding (bad_implied p s) (flat_map (bad_implied p) ss)))

  run_first : (callee : NameAt Name) (bs : List (Binding Name))
      → first_in_run (meant_in scope) callee bs (Some m.interface)
      ≡ earlier (first_at fault.EmitsInput (emitted_by_callee scope callee bs m))
      (first_at fault.BadBinding (badly_bound scope callee bs m))
  run_first callee bs =
      let again = first_at fault.BadBinding (repeated (map left_name bs)) in
      let i = first_at fault.EmitsInput (flat_map emits_bound bs) in
      let b = first_by bad_bound bs in
      let ss = unbound bs m in
      let is = first_at fault.EmitsInput (flat_map (emits_implied callee.pos) ss) in
      let others = first_at fault.BadBinding (flat_map (bad_implied callee.pos) ss) in
      ap (λ o. earlier again (earlier o (first_unbound (meant_in scope) callee.pos bs m.interface)))
      (bindings_first bs) ∙ ap (λ o. earlier again (earlier (earlier i b) o)) (all_implied callee.pos ss)
      ∙ ap (earlier again) (earlier_paired i b is others)
      ∙ first_second again (earlier i is) (earlier b others)
      ∙ ap (earlier (earlier i is)) (sym (earlier_grouped again b others)
      ∙ ap (λ o. earlier o others) (sym (bad_lefts [] bs))
      ∙ sym (first_at_joined fault.BadBinding (bad_left scope m [] bs) (flat_map (bad_implied callee.pos) ss)))
      ∙ ap (λ o. earlier o (first_at fault.BadBinding (badly_bound scope callee bs m)))
      (sym (first_at_joined fault.EmitsInput (flat_map emits_bound bs) (flat_map (emits_implied callee.pos) ss)))

rights_first : (s : Kinds) (bs : List (Binding Name))
    → first_by (λ (b : Binding Name). unknown_at b.right.pos (s b.right.name)) bs
    ≡ first_unknown s (map (λ b. b.right) bs)
rights_first s [] = refl
rights_first s (b ∷ bs) = ap (earlier (unknown_at b.right.pos (s b.right.name))) (rights_first s bs)

call_rows : (parts : Program) (scope : InScope) (callee : NameAt Name) (bs : List (Binding Name))
    → first_of_part parts scope (Call callee bs) ≡ first_over (statement_rows parts scope (Call callee bs))
call_rows parts scope callee bs =
    ap (λ o. earlier o (first_in_run (meant_in scope) callee bs (option_map (λ (m : ModuleNode Name). m.interface)
    (module_named parts callee.name))))
    (ap (λ (t : Kinds). first_by (λ (b : Binding Name). unknown_at b.right.pos (t b.right.name)) bs)
    (same_kinds scope) ∙ rights_first (kinds_in scope) bs
    ∙ sym (earlier_none (first_unknown (kinds_in scope) (map (λ b. b.right) bs)))
    ∙ sym (unknown_of scope (map (λ b. b.right) bs) []))
    ∙ ap (earlier (first_at fault.UnknownSignal (unknown_in_statement scope (Call callee bs))))
    (by (module_named parts callee.name))
  where
    at : (NameAt Name → List (Binding Name) → ModuleNode Name → List Pos) → Option (ModuleNode Name) → List Pos
    at row None = []
    at row (Some m) = row callee bs m

    by : (o : Option (ModuleNode Name))
        → first_in_run (meant_in scope) callee bs (option_map (λ (m : ModuleNode Name). m.interface) o)
        ≡ earlier (first_at fault.UnknownModule (map (λ (n : NameAt Name). n.pos) (cond (not (is_some o)) (callee ∷ []) [])))
        (earlier (first_at fault.EmitsInput (at (emitted_by_callee scope) o))
        (earlier (first_at fault.BadBinding (at (badly_bound scope) o)) None))
    by None = refl
    by (Some m) = run_first scope m callee bs
        ∙ ap (earlier (first_at fault.EmitsInput (emitted_by_callee scope callee bs m)))
        (sym (earlier_none (first_at fault.BadBinding (badly_bound scope callee bs m))))

-- ---- each part

pub part_rows : (parts : Program) (scope : InScope) (part : StatementPart Name)
    → first_of_part parts scope part ≡ first_over (statement_rows parts scope part)
part_rows parts scope (Test x) = test_rows parts scope x
part_rows parts scope (Times n) = refl
part_rows parts scope (Emission n value) = emission_rows parts scope n value
part_rows parts scope (Locals signals) = locals_rows parts scope signals
part_rows parts scope (Exit trap) = exit_rows parts scope trap
part_rows parts scope (Call callee bs) = call_rows parts scope callee bs
part_rows parts scope (Start a) = start_rows parts scope a

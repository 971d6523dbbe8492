-- Measured sizes, which stop at the greatest number, give the refusals of the numbers themselves.
use Rattle.std.proofs.Common.{◌≡◌, ℕ, ◌<◌, Bool, true, false, cond, inl, inr, Option, Some, None, refl}
use Rattle.std.proofs.Common.{sym, ap, ◌∙◌, arith, length}
use Rattle.std.specs.Prelude.{nat_lt}
use Rattle.std.proofs.lemmas.Bool.{lt-ltb, le-ltb, cases_lt}
use Rattle.hh_term.specs.declared.limits.TheConstants.{SIZE_LIMIT, COPIED_LIMIT, HEIGHT_LIMIT, TRAP_LIMIT}
use Rattle.hh_term.specs.declared.limits.TheConstants.{SITE_LIMIT}
use Rattle.hh_term.specs.Sizes.{size_of, copied_size_of, height_of, traps_round}
use Rattle.kernel_expand.specs.declared.fault.ExpandFault.{ExpandFault}
use Rattle.kernel_expand.specs.declared.fault.ExpandFault.TheVariants as fault
use Rattle.kernel_expand.specs.declared.sizes.Sizes.{Sizes}
use Rattle.kernel_expand.specs.Expansion.{Expansion, kernel_of_expansion}
use Rattle.kernel_expand.specs.Measures.{counted, most}
use Rattle.kernel_expand.specs.Refusals.{past, refusal_of, instant, least, instant_loops}
use Rattle.kernel_build.specs.Refusing.{refusal_of_sizes}
use Rattle.kernel_expand.specs.Weighed.{sizes_of_kernel}

same_test : (limit n : ℕ) → limit < most → nat_lt limit (counted n) ≡ nat_lt limit n
same_test limit n le = elim (cases_lt limit n) [
  | inl l ↦ lt-ltb limit (counted n) (omega arith) ∙ sym (lt-ltb limit n l)
  | inr l ↦ le-ltb limit (counted n) (omega arith) ∙ sym (le-ltb limit n l)
]

past_counted : (limit n : ℕ) (refusal : ℕ → ExpandFault) (others : Option ExpandFault) → limit < most
    → past limit (counted n) refusal others ≡ past limit n refusal others
past_counted limit n refusal others le =
    let twice : counted (counted n) ≡ counted n = omega arith in
    (λ i. cond (same_test limit n le i) (Some (refusal (twice i))) others)

pub refused_by_sizes : (x : Expansion)
    → refusal_of_sizes (sizes_of_kernel (kernel_of_expansion x)) (instant (least (instant_loops x.statement)))
    ≡ refusal_of x
refused_by_sizes x =
    let K = kernel_of_expansion x in
    let last = instant (least (instant_loops x.statement)) in
    let copied = past_counted COPIED_LIMIT (copied_size_of K K.statement) fault.CopyLarge last (omega arith) in
    let sites = ap (past SITE_LIMIT (counted (length K.sites)) fault.ManyAsyncs) copied
    ∙ past_counted SITE_LIMIT (length K.sites) fault.ManyAsyncs _ (omega arith) in
    let traps = ap (past TRAP_LIMIT (counted (traps_round K.statement)) fault.TrapsDeep) sites
    ∙ past_counted TRAP_LIMIT (traps_round K.statement) fault.TrapsDeep _ (omega arith) in
    let height = ap (past HEIGHT_LIMIT (counted (height_of K.statement)) fault.TooDeep) traps
    ∙ past_counted HEIGHT_LIMIT (height_of K.statement) fault.TooDeep _ (omega arith) in
    ap (past SIZE_LIMIT (counted (size_of K K.statement)) fault.TooLarge) height
    ∙ past_counted SIZE_LIMIT (size_of K K.statement) fault.TooLarge _ (omega arith)

-- the first of two that is there
abbrev pub or_else : Option ExpandFault → Option ExpandFault → Option ExpandFault
or_else None b = b
or_else (Some a) b = Some a

by_test : (t : Bool) (x : ExpandFault) (a b : Option ExpandFault) → cond t (Some x) (or_else a b)
    ≡ or_else (cond t (Some x) a) b
by_test true x a b = refl
by_test false x a b = refl

past_else : (limit n : ℕ) (refusal : ℕ → ExpandFault) (a b : Option ExpandFault)
    → past limit n refusal (or_else a b) ≡ or_else (past limit n refusal a) b
past_else limit n refusal a b = by_test (nat_lt limit n) (refusal (counted n)) a b

-- what comes behind the refusals by sizes counts where none of these is there
pub sizes_first : (s : Sizes) (b : Option ExpandFault) → refusal_of_sizes s b
    ≡ or_else (refusal_of_sizes s None) b
sizes_first s b =
    let copied = past_else COPIED_LIMIT s.copied fault.CopyLarge None b in
    let sites = ap (past SITE_LIMIT s.sites fault.ManyAsyncs) copied
    ∙ past_else SITE_LIMIT s.sites fault.ManyAsyncs _ b in
    let traps = ap (past TRAP_LIMIT s.traps fault.TrapsDeep) sites
    ∙ past_else TRAP_LIMIT s.traps fault.TrapsDeep _ b in
    let height = ap (past HEIGHT_LIMIT s.height fault.TooDeep) traps
    ∙ past_else HEIGHT_LIMIT s.height fault.TooDeep _ b in
    ap (past SIZE_LIMIT s.size fault.TooLarge) height ∙ past_else SIZE_LIMIT s.size fault.TooLarge _ b

use Rattle.std.proofs.Common.{◌≡◌, ◌||◌, ◌&&◌, ap, ◌∙◌, arith, refl, subst}
use Rattle.hh_term.proofs.FlagSets.{Overwritten, overwrite, finish, past, greater_past, below_next, below_one}
use Rattle.hh_term.specs.Codes.{greater_of, up_to}
use Rattle.hh_term.specs.Flags.{codes_in}
use Rattle.hh_term.proofs.codes.take_greater.Goals as goal

pub loop-c-preserved : goal.loop-c-preserved
loop-c-preserved c =
    let K = codes_in c.args.codes.now in
    let L = codes_in c.args.others.now in
    let n = c.loop-c.c in
    let o = c.loop-c.invariant.codes in
    let here : codes_in c.loop-c.codes n ≡ K n = o.rest n (omega arith) in
    let a = c.either-code_so_far.ensures
    ∙ below_next K n c.loop-c.code_so_far
    (codes_in c.loop-c.codes n) c.loop-c.invariant.code_so_far here in
    let b = c.either-other_so_far.ensures
    ∙ below_next L n c.loop-c.other_so_far (L n) c.loop-c.invariant.other_so_far refl in
    let e : c.greater.result ≡ greater_of K L n =
    c.greater.ensures
    ∙ ap (λ x. (x && c.either-other_so_far.result) || (c.either-code_so_far.result && L n)) here
    ∙ ap (λ x. (K n && x) || (c.either-code_so_far.result && L n)) b
    ∙ ap (λ x. (K n && up_to L n) || (x && L n)) a
    in
    record {
      codes = overwrite c.args.codes.now (greater_of K L) n c.loop-c.codes c.greater.result o (omega arith) e;
      code_so_far = below_one K n c.either-code_so_far.result a;
      other_so_far = below_one L n c.either-other_so_far.result b;
    }

pub returns : goal.returns
returns c =
    let K = codes_in c.args.codes.now in
    let L = codes_in c.args.others.now in
    let end : c.loop-c.c ≡ 258 = omega arith in
    finish c.args.codes.now (greater_of K L) c.loop-c.codes
    (subst (λ n. Overwritten c.args.codes.now
    (greater_of K L) n c.loop-c.codes) end c.loop-c.invariant.codes)
    (λ k h. greater_past K L k (past c.args.codes.now c.told-codes k h)
    (past c.args.others.now c.told-others k h))

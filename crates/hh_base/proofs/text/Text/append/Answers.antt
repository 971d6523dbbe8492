use Rattle.std.proofs.Common.{◌+◌, ◌≤◌, length}
use Rattle.std.specs.String.{string_bytes}
use Rattle.hh_base.specs.declared.text.TheConstants.{TEXT_LIMIT}
use Rattle.hh_base.proofs.Utf8.{IsText-append}
use Rattle.hh_base.proofs.text.Text.append.Goals as goal

pub invariant_of-self-2 : goal.invariant_of-self-2
invariant_of-self-2 c =
    let xs = string_bytes c.self.inside.string in
    let ys = string_bytes c.other.inside.string in
    let short : length xs + length ys ≤ TEXT_LIMIT = rw (c.self.view_is, c.other.view_is) c.requires in
    rw (c.in_ok-push_str.ensures.bytes, c.as_str.ensures.value)
    (IsText-append _ _ c.self.invariant c.other.invariant short)

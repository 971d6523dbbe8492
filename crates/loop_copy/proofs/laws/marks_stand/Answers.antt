use Rattle.loop_copy.proofs.Standing.{term_mark, copied_mark, same_ids, stands_for_one}
use Rattle.loop_copy.proofs.laws.marks_stand.Goals as goal

pub returns-clause-marks : goal.returns-clause-marks
returns-clause-marks c = λ K m x h. (
  term_mark K.statement m x h,
  copied_mark (λ s. s) K.interface 0 K.statement m x h,
  same_ids K.statement m x h,
)

pub returns-clause-one : goal.returns-clause-one
returns-clause-one c = λ K x h. stands_for_one (λ s. s) K.interface 0 K.statement x h

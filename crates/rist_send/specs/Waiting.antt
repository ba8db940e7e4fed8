-- A source that is waited for without end.
use Rattle.std.specs.Prelude.{◌≡◌, ℕ, Bool, false, Option, Some}
use Rattle.rist_send.specs.declared.progress.Stage.{Stage}

-- by what it tells of its answers, it says at no call that a piece is there
pub record IsNeverReady (ready : Option (ℕ → Bool)) : Type 0 where
  pub answers : ℕ → Bool
  pub told : ready ≡ Some answers
  pub no : (k : ℕ) → answers k ≡ false

-- A part of a run left such a source unread: it is such a one still, and its count of faults and its stage stand.
pub record LeavesUnread (ready : Option (ℕ → Bool)) (faults_were faults_are : ℕ) (stage_was stage_is : Stage)
    : Type 0 where
  pub never : IsNeverReady ready
  pub faults : faults_are ≡ faults_were
  pub stage : stage_is ≡ stage_was

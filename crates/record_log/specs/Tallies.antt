-- How many records count, as far as that is known.
use Rattle.std.specs.Prelude.{◌≡◌, ◌≤◌, ◌+◌, ℕ, true, length, IfSome, Option}
use Rattle.record_rows.specs.Rows.{RowsView, shown}
use Rattle.record_log.specs.declared.tally.Tally.{Tally}

-- At most so many count, and exactly so many if that is known.
pub record IsTallied (tally : Tally) (rows : RowsView) : Type 0 where
  pub most : length (shown rows) ≤ tally.most
  pub exact : tally.exact ≡ true → tally.most ≡ length (shown rows)

-- Some records went: of those among which they were there were so many, and so many are left. What is given says so, if it says
-- anything.
pub record HasFallen (before after : Option ℕ) (old new : RowsView) : Type 0 where
  pub count : ℕ
  pub left : ℕ
  pub counted : IfSome before (λ known. known ≡ count)
  pub recounted : IfSome after (λ known. known ≡ left)
  pub fewer : left ≤ count
  pub all : length (shown new) + count ≡ length (shown old) + left

-- Where a check ends.
use Rattle.std.specs.Prelude.{◌≡◌, ℕ, List, drop}
use Rattle.definition_inline.specs.GfmTaskListItem.{check_size}
use Rattle.inline_leaves.specs.Leaves.{size_before, IsAfter, IsEnd}

-- what follows a check
pub record IsAfterCheck (content rest : List ℕ) : Type 0 where
  pub after : IsAfter content rest
  pub size : size_before content rest ≡ check_size

-- the place after a check
pub record IsCheckEnd (content : List ℕ) (end : ℕ) : Type 0 where
  pub place : IsEnd content end
  pub size : size_before content (drop end content) ≡ check_size

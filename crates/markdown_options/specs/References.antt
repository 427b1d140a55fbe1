-- The names of character references (CommonMark 2.5).
use Rattle.std.specs.Prelude.{ℕ, ◌≤◌, List, length, IsTrue}
use Rattle.std.specs.List.{list_all}
use Rattle.std.specs.Char.{is_ascii_alphanumeric}

-- 1 to 31 ASCII letters or digits
pub record IsReferenceName (name : List ℕ) : Type 0 where
  pub nonempty : 1 ≤ length name
  pub bounded : length name ≤ 31
  pub alphanumeric : IsTrue (list_all is_ascii_alphanumeric name)

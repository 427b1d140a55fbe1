use Rattle.std.proofs.Common.{◌≡◌, drop}
use Rattle.std.specs.List.{list_any}
use Rattle.std.specs.Str.{bytes_eq}
use Rattle.html_unsafe_place.proofs.what.is_one_of.Given as goal

-- the names that are left have the answer
abbrev pub invariant-loop-one : goal.invariant-loop-one
invariant-loop-one l = list_any (λ n. bytes_eq n.now l.name) (drop l.one-index l.names) ≡ list_any (λ n. bytes_eq n.now l.name) l.names

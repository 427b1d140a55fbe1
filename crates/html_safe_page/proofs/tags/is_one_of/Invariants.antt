use Rattle.std.proofs.Common.{◌≡◌, drop}
use Rattle.std.specs.List.{list_any}
use Rattle.std.specs.Str.{bytes_eq}
use Rattle.html_safe_page.proofs.tags.is_one_of.Given as goal

-- the names that are left have the answer
abbrev pub invariant-loop-name : goal.invariant-loop-name
invariant-loop-name l = list_any (λ n. bytes_eq n.now l.tag) (drop l.name-index l.names) ≡ list_any (λ n. bytes_eq n.now l.tag) l.names

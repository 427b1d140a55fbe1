use Rattle.std.proofs.Common.{◌≡◌, ◌+◌, ◌-◌, ◌<◌, ◌≤◌, get_or, length, take, sym, ap, ◌∙◌, arith, subst}
use Rattle.std.proofs.lemmas.List.{length-take-le, get_or-take}
use Rattle.definition_inline.specs.GfmAutolinkLiteral as literal
use Rattle.inline_literals.proofs.Addresses.{first_byte}
use Rattle.inline_literals.proofs.address.address_at.Goals as goal

pub returns-clause-place : goal.returns-clause-place
returns-clause-place c =
    let before = c.args.before.now in
    let after = c.args.after.now in
    let user = c.user_size-user.result in
    let protocol = c.protocol_size-protocol.result in
    let host = c.host_size-host.result in
    let some : 0 < user = omega (arith, c.if-user-lt1.false) in
    let cut : length (take (length before - user) before) ≡ length before - user = length-take-le (length before - user) before (omega arith) in
    let within : user + protocol ≤ length before = omega (arith, cut, c.protocol_size-protocol.ensures.within, c.user_size-user.ensures.within) in
    let taken : length (take host after) ≡ host = length-take-le host after c.host_size-host.ensures.within in
    let last = c.is_host.ensures.last c.if-not-is_host.false in
    let sizes : c.address_of.result.before ≡ user + protocol = ap (λ (a : literal.Address). a.before) c.address_of.ensures in
    let count : c.address_of.result.after ≡ host = ap (λ (a : literal.Address). a.after) c.address_of.ensures in
    let positive : 0 < host = omega (arith, last.0, taken) in
    record {
      some = omega (arith, some, sizes);
      user_within = omega (arith, within, sizes);
      host_some = omega (arith, positive, count);
      host_within = omega (arith, count, c.host_size-host.ensures.within);
      first = subst (λ n. get_or before (length before - n) 0 < 128) (sym sizes)
          (first_byte before user protocol within some c.user_size-user.ensures.first c.protocol_size-protocol.ensures.first);
      last = subst (λ b. b < 128)
          (ap (λ k. get_or (take host after) (k - 1) 0) taken ∙ get_or-take host after (host - 1) 0 (omega (arith, positive))
          ∙ ap (λ k. get_or after (k - 1) 0) (sym count))
          last.1;
    }

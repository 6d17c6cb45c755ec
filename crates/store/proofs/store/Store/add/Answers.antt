use Rattle.std.proofs.Common.{◌+◌, ◌-◌, ◌≤◌, length, arith}
use Rattle.store.proofs.Bytes.{put_is, rest_after}
use Rattle.store.proofs.store.Store.add.Goals as goal

pub invariant_of-self : goal.invariant_of-self
invariant_of-self c =
    let s = c.args.self.now in
    let t = c.args.text.now in
    let b : s.used + length t ≤ length s.bytes.items = omega (arith, s.whole, s.bytes.ok.0) in
    let e = put_is s.used (s.used + length t - s.used) s.bytes.len s.bytes.items _ _ t _ c.deref_mut.ensures.value s.bytes.ok.0 c.copy_from_slice.ensures.after (omega arith) (omega (arith, s.bytes.ok.0)) in
    record {
      whole = s.whole;
      within = omega arith;
      rest = rest_after s.used s.bytes.items t _ b e 32768 s.rest;
    }

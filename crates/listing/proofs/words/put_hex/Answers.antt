use Rattle.std.proofs.Common.{vec_items, arith}
use Rattle.listing.proofs.Hex.{hex_put}
use Rattle.listing.proofs.words.put_hex.Goals as goal

pub returns : goal.returns
returns c = hex_put c.args.n c.loop-b.b-index (vec_items c.loop-b.out) (vec_items c.args.out.now) c.to_be_bytes-b-items.result c.to_be_bytes-b-items.ensures (omega arith) c.loop-b.invariant

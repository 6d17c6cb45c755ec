use Rattle.std.proofs.Common.{arith}
use Rattle.listing.proofs.Zeros.{zeros_hash}
use Rattle.listing.proofs.hash.with_zeros.Goals as goal

pub returns : goal.returns
returns c = zeros_hash c.args.count c.args.hash c.wrapping_pow.result (omega arith) c.wrapping_pow.ensures

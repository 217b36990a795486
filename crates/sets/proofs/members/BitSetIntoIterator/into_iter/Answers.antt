use Rattle.sets.proofs.Listing.{listed}
use Rattle.sets.proofs.members.BitSetIntoIterator.into_iter.Goals as goal

pub returns : goal.returns
returns g c = record { into_iter_gives = listed g.W.Word.number c.args.self }

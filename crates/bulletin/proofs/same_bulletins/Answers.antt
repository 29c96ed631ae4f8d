-- `bulletin::same_bulletins` meets its contract: what a bulletin answers and leaves does not depend on the byte form.
use Rattle.bulletin.proofs.Forms.{same_bulletins}
use Rattle.bulletin.proofs.same_bulletins.Goals as goal

pub returns : goal.returns
returns c = same_bulletins

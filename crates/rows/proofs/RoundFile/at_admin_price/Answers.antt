-- `RoundFile::at_admin_price` meets its contract: the fields are the application's own, and the price its technology's in its year.
use Rattle.rows.proofs.Laws.{at_admin_is}
use Rattle.rows.proofs.RoundFile.at_admin_price.Goals as goal

pub returns : goal.returns
returns c = at_admin_is _ _ c.application-own.ensures c.admin.ensures

-- Both are asked of few bids that are gathered.
use Rattle.combinations.proofs.Lists.{base_ok, tied_gathered}
use Rattle.wide.proofs.both.Goals as goal

pub rest-rest-requires : goal.rest-rest-requires
rest-rest-requires g c = record { ready = c.args.sheet.now.ready; winners = base_ok _ _ _ _ _ c.args.sheet.now.ready c.bases-base.ensures }

pub listing-plain-requires : goal.listing-plain-requires
listing-plain-requires g c = (
  record { ready = c.args.sheet.now.ready; winners = base_ok _ _ _ _ _ c.args.sheet.now.ready c.bases-base.ensures },
  tied_gathered _ _ _ _ c.args.sheet.now.ready (record { counted = c.count-count.ensures; few = c.if-count-gt-WIDEST_TIE.false }) c.gathered-tied.ensures,
)

pub search-searched-requires : goal.search-searched-requires
search-searched-requires g c = (
  record { ready = c.args.sheet.now.ready; winners = base_ok _ _ _ _ _ c.args.sheet.now.ready c.bases-base.ensures },
  tied_gathered _ _ _ _ c.args.sheet.now.ready (record { counted = c.count-count.ensures; few = c.if-count-gt-WIDEST_TIE.false }) c.gathered-tied.ensures,
)

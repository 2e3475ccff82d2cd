use borrow.Author.Tests.{le-leb, lt-leb}
use Rattle.format.specs.FundType.{fund_types}
use Rattle.format.specs.Settings.{settings_hold}
use lib.ListN.{length}
use Rattle.format.proofs.settings.settings_hold.Goals as goal

pub returns-then-vendors-gt-VENDOR_LIMIT : goal.returns-then-vendors-gt-VENDOR_LIMIT
unfolding settings_hold
returns-then-vendors-gt-VENDOR_LIMIT c = rw (lt-leb (length c.args.vendors.now) 64 c.if-vendors-gt-VENDOR_LIMIT.true)

pub returns : goal.returns
unfolding settings_hold fund_types
returns c = rw (le-leb (length c.args.vendors.now) 64 c.if-vendors-gt-VENDOR_LIMIT.false, c.vendors_hold.ensures, c.roles_hold.ensures)

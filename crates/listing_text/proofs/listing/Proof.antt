-- `listing_text::listing` meets its contract: the slice has room for every listing.
use native.Mathlib.Omega.{arith}
use Rattle.slice_text.proofs.Puts.{put_first, put-length}
use Rattle.listing_spec.specs.Computed.{listing_of}
use Rattle.listing_spec.proofs.Room.{listing-most}
use Rattle.listing_spec.proofs.ByLists.{printed, left_by}
use Rattle.listing_text.proofs.listing.Statement.{statement}
use Rattle.listing_text.proofs.listing.Tie as tie

put-listing-requires : tie.Need-put_listing-requires
put-listing-requires c κs = let start : tie.Start = search in omega (arith, listing-most start.args.file.now, start.well_formed)

returns : tie.Need-returns
returns c =
    let P = c.put_listing.ensures in let p = put_first P in let start : tie.Start = search in let f = start.args.file.now in let text = listing_of f in let old = start.args.out.now in
    let parts = left_by text old _ _ p.0 p.1 in (p.0, (p.1, (omega (arith, P.fits, put-length P), (rw parts.0 (printed f), parts.1))))

pub listing_spec : {M : Type 1} → statement M
listing_spec = tie.close (tie.spec put-listing-requires returns)

use Rattle.quast.proofs.Words.{◌≡◌, ◌++◌, ◌∷◌, [], rules, floor_div, Fits, All-push}
use Rattle.quast.proofs.place.append_floor.Goals as goal

pub returns-clause-fits : goal.returns-clause-fits
returns-clause-fits c =
    let items : c.push.new.self.items ≡ c.args.vector.now.items ++ floor_div c.args.x c.args.d ∷ [] = search rules in
    let fits : Fits (floor_div c.args.x c.args.d) = search rules in
    rw items (All-push Fits _ _ c.requires.fits fits)

use Rattle.std.proofs.Common.{◌≡◌, ap, ◌∙◌, rules}
use Rattle.std.specs.Prelude.{slice_get}
use Rattle.std.specs.Option.{option_and_then}
use Rattle.page_reencrypt.proofs.Places.{place_in, register_at, no_place}
use Rattle.page_reencrypt.proofs.find_open.Goals as goal

pub returns-clause-register : goal.returns-clause-register
returns-clause-register c =
    let place : c.map.result ≡ place_in c.args.list.now.items c.args.page = search rules in
    ap (option_and_then (λ n. slice_get c.args.list.now.items n)) place ∙ register_at c.args.list.now.items c.args.page

pub returns-clause-none : goal.returns-clause-none
returns-clause-none c =
    let place : c.map.result ≡ place_in c.args.list.now.items c.args.page = search rules in
    no_place c.map.result c.args.list.now.items c.args.page place

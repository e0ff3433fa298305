use Rattle.margins.specs.Products.{products}
use Rattle.margins.proofs.Alike.{none_passed, next-name, this-name, all-passed}
use Rattle.margins.proofs.products.product_of.Goals as goal

pub returns-then-is_same : goal.returns-then-is_same
returns-then-is_same c =
    let p0 = none_passed products c.args.word.now in
    this-name products 0 _ _ _ p0 c.is_same.ensures c.if-is_same.true

pub returns-then-is_same-2 : goal.returns-then-is_same-2
returns-then-is_same-2 c =
    let p0 = none_passed products c.args.word.now in
    let p1 = next-name products 0 _ _ _ p0 c.is_same.ensures c.if-is_same.false in
    this-name products 1 _ _ _ p1 c.is_same-2.ensures c.if-is_same-2.true

pub returns-then-is_same-3 : goal.returns-then-is_same-3
returns-then-is_same-3 c =
    let p0 = none_passed products c.args.word.now in
    let p1 = next-name products 0 _ _ _ p0 c.is_same.ensures c.if-is_same.false in
    let p2 = next-name products 1 _ _ _ p1 c.is_same-2.ensures c.if-is_same-2.false in
    this-name products 2 _ _ _ p2 c.is_same-3.ensures c.if-is_same-3.true

pub returns-then-is_same-4 : goal.returns-then-is_same-4
returns-then-is_same-4 c =
    let p0 = none_passed products c.args.word.now in
    let p1 = next-name products 0 _ _ _ p0 c.is_same.ensures c.if-is_same.false in
    let p2 = next-name products 1 _ _ _ p1 c.is_same-2.ensures c.if-is_same-2.false in
    let p3 = next-name products 2 _ _ _ p2 c.is_same-3.ensures c.if-is_same-3.false in
    this-name products 3 _ _ _ p3 c.is_same-4.ensures c.if-is_same-4.true

pub returns-then-is_same-5 : goal.returns-then-is_same-5
returns-then-is_same-5 c =
    let p0 = none_passed products c.args.word.now in
    let p1 = next-name products 0 _ _ _ p0 c.is_same.ensures c.if-is_same.false in
    let p2 = next-name products 1 _ _ _ p1 c.is_same-2.ensures c.if-is_same-2.false in
    let p3 = next-name products 2 _ _ _ p2 c.is_same-3.ensures c.if-is_same-3.false in
    let p4 = next-name products 3 _ _ _ p3 c.is_same-4.ensures c.if-is_same-4.false in
    this-name products 4 _ _ _ p4 c.is_same-5.ensures c.if-is_same-5.true

pub returns-then-is_same-6 : goal.returns-then-is_same-6
returns-then-is_same-6 c =
    let p0 = none_passed products c.args.word.now in
    let p1 = next-name products 0 _ _ _ p0 c.is_same.ensures c.if-is_same.false in
    let p2 = next-name products 1 _ _ _ p1 c.is_same-2.ensures c.if-is_same-2.false in
    let p3 = next-name products 2 _ _ _ p2 c.is_same-3.ensures c.if-is_same-3.false in
    let p4 = next-name products 3 _ _ _ p3 c.is_same-4.ensures c.if-is_same-4.false in
    let p5 = next-name products 4 _ _ _ p4 c.is_same-5.ensures c.if-is_same-5.false in
    this-name products 5 _ _ _ p5 c.is_same-6.ensures c.if-is_same-6.true

pub returns-then-is_same-7 : goal.returns-then-is_same-7
returns-then-is_same-7 c =
    let p0 = none_passed products c.args.word.now in
    let p1 = next-name products 0 _ _ _ p0 c.is_same.ensures c.if-is_same.false in
    let p2 = next-name products 1 _ _ _ p1 c.is_same-2.ensures c.if-is_same-2.false in
    let p3 = next-name products 2 _ _ _ p2 c.is_same-3.ensures c.if-is_same-3.false in
    let p4 = next-name products 3 _ _ _ p3 c.is_same-4.ensures c.if-is_same-4.false in
    let p5 = next-name products 4 _ _ _ p4 c.is_same-5.ensures c.if-is_same-5.false in
    let p6 = next-name products 5 _ _ _ p5 c.is_same-6.ensures c.if-is_same-6.false in
    this-name products 6 _ _ _ p6 c.is_same-7.ensures c.if-is_same-7.true

pub returns-then-is_same-8 : goal.returns-then-is_same-8
returns-then-is_same-8 c =
    let p0 = none_passed products c.args.word.now in
    let p1 = next-name products 0 _ _ _ p0 c.is_same.ensures c.if-is_same.false in
    let p2 = next-name products 1 _ _ _ p1 c.is_same-2.ensures c.if-is_same-2.false in
    let p3 = next-name products 2 _ _ _ p2 c.is_same-3.ensures c.if-is_same-3.false in
    let p4 = next-name products 3 _ _ _ p3 c.is_same-4.ensures c.if-is_same-4.false in
    let p5 = next-name products 4 _ _ _ p4 c.is_same-5.ensures c.if-is_same-5.false in
    let p6 = next-name products 5 _ _ _ p5 c.is_same-6.ensures c.if-is_same-6.false in
    let p7 = next-name products 6 _ _ _ p6 c.is_same-7.ensures c.if-is_same-7.false in
    this-name products 7 _ _ _ p7 c.is_same-8.ensures c.if-is_same-8.true

pub returns-then-is_same-9 : goal.returns-then-is_same-9
returns-then-is_same-9 c =
    let p0 = none_passed products c.args.word.now in
    let p1 = next-name products 0 _ _ _ p0 c.is_same.ensures c.if-is_same.false in
    let p2 = next-name products 1 _ _ _ p1 c.is_same-2.ensures c.if-is_same-2.false in
    let p3 = next-name products 2 _ _ _ p2 c.is_same-3.ensures c.if-is_same-3.false in
    let p4 = next-name products 3 _ _ _ p3 c.is_same-4.ensures c.if-is_same-4.false in
    let p5 = next-name products 4 _ _ _ p4 c.is_same-5.ensures c.if-is_same-5.false in
    let p6 = next-name products 5 _ _ _ p5 c.is_same-6.ensures c.if-is_same-6.false in
    let p7 = next-name products 6 _ _ _ p6 c.is_same-7.ensures c.if-is_same-7.false in
    let p8 = next-name products 7 _ _ _ p7 c.is_same-8.ensures c.if-is_same-8.false in
    this-name products 8 _ _ _ p8 c.is_same-9.ensures c.if-is_same-9.true

pub returns-then-is_same-10 : goal.returns-then-is_same-10
returns-then-is_same-10 c =
    let p0 = none_passed products c.args.word.now in
    let p1 = next-name products 0 _ _ _ p0 c.is_same.ensures c.if-is_same.false in
    let p2 = next-name products 1 _ _ _ p1 c.is_same-2.ensures c.if-is_same-2.false in
    let p3 = next-name products 2 _ _ _ p2 c.is_same-3.ensures c.if-is_same-3.false in
    let p4 = next-name products 3 _ _ _ p3 c.is_same-4.ensures c.if-is_same-4.false in
    let p5 = next-name products 4 _ _ _ p4 c.is_same-5.ensures c.if-is_same-5.false in
    let p6 = next-name products 5 _ _ _ p5 c.is_same-6.ensures c.if-is_same-6.false in
    let p7 = next-name products 6 _ _ _ p6 c.is_same-7.ensures c.if-is_same-7.false in
    let p8 = next-name products 7 _ _ _ p7 c.is_same-8.ensures c.if-is_same-8.false in
    let p9 = next-name products 8 _ _ _ p8 c.is_same-9.ensures c.if-is_same-9.false in
    this-name products 9 _ _ _ p9 c.is_same-10.ensures c.if-is_same-10.true

pub returns : goal.returns
returns c =
    let p0 = none_passed products c.args.word.now in
    let p1 = next-name products 0 _ _ _ p0 c.is_same.ensures c.if-is_same.false in
    let p2 = next-name products 1 _ _ _ p1 c.is_same-2.ensures c.if-is_same-2.false in
    let p3 = next-name products 2 _ _ _ p2 c.is_same-3.ensures c.if-is_same-3.false in
    let p4 = next-name products 3 _ _ _ p3 c.is_same-4.ensures c.if-is_same-4.false in
    let p5 = next-name products 4 _ _ _ p4 c.is_same-5.ensures c.if-is_same-5.false in
    let p6 = next-name products 5 _ _ _ p5 c.is_same-6.ensures c.if-is_same-6.false in
    let p7 = next-name products 6 _ _ _ p6 c.is_same-7.ensures c.if-is_same-7.false in
    let p8 = next-name products 7 _ _ _ p7 c.is_same-8.ensures c.if-is_same-8.false in
    let p9 = next-name products 8 _ _ _ p8 c.is_same-9.ensures c.if-is_same-9.false in
    let p10 = next-name products 9 _ _ _ p9 c.is_same-10.ensures c.if-is_same-10.false in
    all-passed products _ 10 p10

mod Counting
mod Keeping
mod Dims
mod Allotments
mod Beginning
mod Agreeing
mod Fitting

mod Equal
mod Loop
